-- The nodes of a cut, while they are read.
use Rattle.std.specs.Prelude.{◌≡◌, ℕ, ◌<◌, List, [], ◌++◌, length, map, take, drop, set, Some, slice_get}
use Rattle.std.specs.List.{AllByRecursion, insert, remove}
use Rattle.column_types.specs.declared.cell.Cell.{Cell}
use Rattle.read_cursor.specs.Lease.{Leased}
use Rattle.table_model.specs.History.{History}
use Rattle.table_model.specs.Sessions.{Opened, session_of}
use Rattle.drill.specs.declared.drain_parts.Part.{Part}
use Rattle.drill.specs.declared.moves.Move.{Move}
use Rattle.drill.specs.Drains.{node_rows}
use Rattle.drill.specs.Moves.{cut_in}
use Rattle.drill.specs.Reads.{rows_behind}

abbrev pub node_in : Part → ℕ
node_in part = part.node

abbrev pub rows_in : Part → List (List Cell)
rows_in part = part.rows.items

-- nothing was read of it
abbrev pub has_none : Part → Type 0
has_none part = rows_in part ≡ []

-- the rows that were read are the first ones of all
abbrev pub AreFirst : List (List Cell) → List (List Cell) → Type 0
AreFirst read all = (rest : List (List Cell)) × (all ≡ read ++ rest)

-- The cut to which the moves lead at this history, with some rows of each node.
pub record Stands (history : History) (number : ℕ) (moves : List Move) (parts : List Part) : Type 0 where
  pub session : Opened
  pub begun : session_of history number ≡ Some session
  pub cut : cut_in session.nodes moves ≡ Some (map node_in parts)
  pub first : AllByRecursion (λ part. AreFirst (rows_in part) (node_rows session history part.node)) parts
  pub some : 0 < length parts

-- Of the node at this place more rows were read, of those of its lease.
pub record ReadsOn (lease : Leased) (before : List Part) (place : ℕ) (after : List Part) : Type 0 where
  pub old : Part
  pub there : slice_get before place ≡ Some old
  pub new : Part
  pub after_is : after ≡ set before place new
  pub node : new.node ≡ old.node
  pub rows : AreFirst (rows_in new) (rows_in old ++ rows_behind lease (length (rows_in old)))

-- In the place of the node two others stand, and the rows that were read of it are shared out: to the left one, whose lease
-- it is, as many as it has.
pub record Divides (lease : Leased) (before : List Part) (place left right : ℕ) (after : List Part) : Type 0 where
  pub old : Part
  pub there : slice_get before place ≡ Some old
  pub first : Part
  pub second : Part
  pub after_is : after ≡ insert (insert (remove before place) place second) place first
  pub left_is : first.node ≡ left
  pub right_is : second.node ≡ right
  pub first_rows : rows_in first ≡ take (length (rows_behind lease 0)) (rows_in old)
  pub second_rows : rows_in second ≡ drop (length (rows_behind lease 0)) (rows_in old)
