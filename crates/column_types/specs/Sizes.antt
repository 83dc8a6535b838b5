-- The bytes that the texts and byte strings of a row hold.
use Rattle.std.specs.Prelude.{ℕ, List, length}
use Rattle.std.specs.List.{sum_by}
use Rattle.column_types.specs.declared.cell.Cell.{Cell}
use Rattle.column_types.specs.declared.cell.Cell.TheVariants as cell

abbrev pub bytes_of_cell : Cell → ℕ
bytes_of_cell (cell.Str text) = length text
bytes_of_cell (cell.Bytes bytes) = length bytes
bytes_of_cell _ = 0

abbrev pub bytes_of_row : List Cell → ℕ
bytes_of_row row = sum_by bytes_of_cell row
