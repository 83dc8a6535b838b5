-- The rows that the writers send, of which there are four, numbered from 0.
use Rattle.std.specs.Prelude.{ℕ, zero, suc, pos, ◌+◌, ◌*◌, ◌%◌, ◌==◌, List, [], ◌∷◌, map, codes, if◌then◌else◌}
use Rattle.std.specs.List.{range_with_len}
use Rattle.column_types.specs.declared.cell.Cell.{Cell}
use Rattle.column_types.specs.declared.cell.Cell.TheVariants as cell
use Rattle.column_types.specs.declared.row.Row.{Row}

-- how many rows a batch has
abbrev pub batch_length : (writer batch : ℕ) → ℕ
batch_length writer batch = 1 + (7 * writer + 5 * batch) % 8

-- how many rows a writer's batches before this one have
unfoldable pub rows_before : (writer batch : ℕ) → ℕ
rows_before writer zero = 0
rows_before writer (suc batch) = rows_before writer batch + batch_length writer batch

-- the id of a writer's row of this number
abbrev pub id_of : (writer number : ℕ) → ℕ
id_of writer number = 1000000 * writer + number

abbrev pub tag_of : (id : ℕ) → Cell
tag_of id = if id % 2 == 0 then cell.Str (codes "even") else cell.Null

abbrev pub row_of : (writer number : ℕ) → Row
row_of writer number = cell.Int (pos (id_of writer number)) ∷ tag_of (id_of writer number) ∷ []

-- the rows of a batch: they are numbered on from those of the batches before it
abbrev pub batch_of : (writer batch : ℕ) → List Row
batch_of writer batch = map (row_of writer) (range_with_len (rows_before writer batch) (batch_length writer batch))
