-- The faults of a list of rows, in order.
use Rattle.std.specs.Prelude.{ℕ, ◌+◌, List, [], ◌∷◌, Result, Ok, Err}
use Rattle.column_types.specs.declared.cell.Cell.{Cell}
use Rattle.row_descriptor.specs.declared.bound.BoundColumn.{BoundColumn}
use Rattle.row_decode.specs.declared.faults.RowWhy.{RowWhy}
use Rattle.row_decode.specs.declared.faults.RowFault.{RowFault}
use Rattle.row_decode.specs.Row.{row_of}

-- the fault of a row, if it has one, in front of others
abbrev pub with_fault : ℕ → Result (List Cell) RowWhy → List RowFault → List RowFault
with_fault index (Ok row) others = others
with_fault index (Err e) others = record { index = index; why = e } ∷ others

-- The faults of rows that are numbered from a number on.
abbrev pub faults_from : List BoundColumn → ℕ → List (List ℕ) → List RowFault
faults_from binding index [] = []
faults_from binding index (bytes ∷ rows) = with_fault index (row_of binding bytes) (faults_from binding (index + 1) rows)

abbrev pub faults_of : List BoundColumn → List (List ℕ) → List RowFault
faults_of binding rows = faults_from binding 0 rows
