-- What a spine keeps: full blocks of groups and a last block, each group and each block with its start.
use Rattle.std.specs.Prelude.{◌≡◌, ℕ, ◌<◌, ◌≤◌, ◌^◌, List, ◌++◌, length, map}
use Rattle.std.specs.List.{flat_map, sum_by, AllByRecursion}
use Rattle.column_types.specs.declared.cell.Cell.{Cell}
use Rattle.row_groups.specs.declared.block.TheConstants.{BLOCK_GROUPS}
use Rattle.row_groups.specs.Places.{joined, HasRows}
use Rattle.row_groups.specs.Starts.{Starting}

pub record PlacedGroup : Type 0 where
  pub start : ℕ
  pub rows : List (List Cell)

pub record PlacedBlock : Type 0 where
  pub start : ℕ
  pub groups : List PlacedGroup

abbrev pub group_start : PlacedGroup → ℕ
group_start group = group.start

abbrev pub group_size : PlacedGroup → ℕ
group_size group = length group.rows

abbrev pub rows_of : PlacedGroup → List (List Cell)
rows_of group = group.rows

abbrev pub block_start : PlacedBlock → ℕ
block_start block = block.start

abbrev pub block_size : PlacedBlock → ℕ
block_size block = sum_by group_size block.groups

abbrev pub groups_of : PlacedBlock → List PlacedGroup
groups_of block = block.groups

-- the groups of full blocks and of a last block
abbrev pub all_groups : List PlacedBlock → List PlacedGroup → List PlacedGroup
all_groups full last = flat_map groups_of full ++ last

-- their rows
abbrev pub all_rows : List PlacedBlock → List PlacedGroup → List (List (List Cell))
all_rows full last = map rows_of (all_groups full last)

-- A full block, whose groups start where it starts.
abbrev pub IsFull : PlacedBlock → Type 0
IsFull block = (length block.groups ≡ BLOCK_GROUPS) × Starting group_start group_size block.start block.groups

pub record Keeps (full : List PlacedBlock) (last : List PlacedGroup) (last_start len : ℕ) : Type 0 where
  pub each : AllByRecursion IsFull full
  pub starts : Starting block_start block_size 0 full
  pub behind : last_start ≡ sum_by block_size full
  pub ends : Starting group_start group_size last_start last
  pub short : length last ≤ BLOCK_GROUPS
  pub counts : len ≡ length (joined (all_rows full last))
  pub some : AllByRecursion HasRows (all_rows full last)
  pub small : len < 2 ^ 32
