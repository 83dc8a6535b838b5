-- The rows of a message, or the first of them that are refused.
use Rattle.std.specs.Prelude.{ℕ, List, [], ◌∷◌, map, take, Result, Ok, Err}
use Rattle.column_types.specs.declared.cell.Cell.{Cell}
use Rattle.row_descriptor.specs.declared.bound.BoundColumn.{BoundColumn}
use Rattle.row_decode.specs.declared.faults.RowWhy.{RowWhy}
use Rattle.row_decode.specs.declared.faults.RowFault.{RowFault}
use Rattle.row_decode.specs.declared.faults.TheConstants.{MAX_FAULTS}
use Rattle.row_decode.specs.Row.{row_of}
use Rattle.row_decode.specs.Rows.{faults_of}

-- those that can be read
abbrev pub read : List (Result (List Cell) RowWhy) → List (List Cell)
read [] = []
read (Ok row ∷ rows) = row ∷ read rows
read (Err cause ∷ rows) = read rows

abbrev pub unless_faulty : List (List Cell) → List RowFault → Result (List (List Cell)) (List RowFault)
unless_faulty rows [] = Ok rows
unless_faulty rows (fault ∷ faults) = Err (fault ∷ faults)

-- All rows, or the first faults where a row has one.
abbrev pub rows_or_faults : List BoundColumn → List (List ℕ) → Result (List (List Cell)) (List RowFault)
rows_or_faults binding rows = unless_faulty (read (map (row_of binding) rows)) (take MAX_FAULTS (faults_of binding rows))
