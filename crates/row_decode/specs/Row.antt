-- The row that bytes are, by a binding.
use Rattle.std.specs.Prelude.{ℕ, ◌+◌, List, [], ◌∷◌, Result, Ok, Err}
use Rattle.column_types.specs.declared.cell.Cell.{Cell}
use Rattle.proto_fields.specs.Record.{Record}
use Rattle.proto_fields.specs.Message.{fields_of}
use Rattle.row_descriptor.specs.declared.bound.BoundColumn.{BoundColumn}
use Rattle.row_decode.specs.declared.faults.RowWhy.{RowWhy}
use Rattle.row_decode.specs.declared.faults.RowWhy.TheVariants as why
use Rattle.row_decode.specs.Cell.{cell_of}

-- a cell in front of others, or the first refusal
abbrev pub in_front : Result Cell RowWhy → Result (List Cell) RowWhy → Result (List Cell) RowWhy
in_front (Err e) others = Err e
in_front (Ok first) (Err e) = Err e
in_front (Ok first) (Ok others) = Ok (first ∷ others)

-- The cells of columns, which are numbered from a number on, or the refusal of the first that has one.
abbrev pub cells_from : ℕ → List BoundColumn → List Record → Result (List Cell) RowWhy
cells_from at [] records = Ok []
cells_from at (column ∷ columns) records = in_front (cell_of at column records) (cells_from (at + 1) columns records)

abbrev pub row_by : List BoundColumn → Result (List Record) ℕ → Result (List Cell) RowWhy
row_by binding (Ok records) = cells_from 0 binding records
row_by binding (Err at) = Err why.Malformed

-- The row, or Malformed where the bytes are no message, or the refusal of the least column that has one.
abbrev pub row_of : List BoundColumn → List ℕ → Result (List Cell) RowWhy
row_of binding bytes = row_by binding (fields_of bytes)
