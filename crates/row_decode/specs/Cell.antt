-- The cell of one column, by what the fields of a row's message say.
use Rattle.std.specs.Prelude.{ℕ, ℤ, Bool, not, ◌==◌, if◌then◌else◌, List, Option, Some, None, Result, Ok, Err}
use Rattle.std.specs.Str.{is_utf8}
use Rattle.column_types.specs.declared.column.Kind.{Kind}
use Rattle.column_types.specs.declared.column.Kind.TheVariants as kind
use Rattle.column_types.specs.declared.column.Mode.{Mode}
use Rattle.column_types.specs.declared.column.Mode.TheVariants as mode
use Rattle.column_types.specs.declared.cell.Cell.{Cell}
use Rattle.column_types.specs.declared.cell.Cell.TheVariants as cell
use Rattle.column_types.specs.declared.ranges.TheConstants.{LEAST_INT64, GREATEST_INT64, FIRST_DAY, LAST_DAY, FIRST_INSTANT, LAST_INSTANT}
use Rattle.column_types.specs.Row.{is_between}
use Rattle.proto_fields.specs.Record.{Record}
use Rattle.proto_fields.specs.Selection.{varints_of, payloads_of, last_of}
use Rattle.row_descriptor.specs.declared.bound.Source.{Source}
use Rattle.row_descriptor.specs.declared.bound.BoundColumn.{BoundColumn}
use Rattle.row_decode.specs.declared.faults.RowWhy.{RowWhy}
use Rattle.row_decode.specs.declared.faults.RowWhy.TheVariants as why
use Rattle.row_decode.specs.Number.{number_of}

-- what stands for no value in the column of this number
abbrev pub no_value : ℕ → Mode → Result Cell RowWhy
no_value at mode.Nullable = Ok cell.Null
no_value at mode.Required = Err (why.Missing at)

abbrev pub int_cell : ℕ → ℤ → Result Cell RowWhy
int_cell at z = if is_between LEAST_INT64 GREATEST_INT64 z then Ok (cell.Int z) else Err (why.OutOfRange at)

abbrev pub date_cell : ℕ → ℤ → Result Cell RowWhy
date_cell at z = if is_between FIRST_DAY LAST_DAY z then Ok (cell.Date z) else Err (why.OutOfRange at)

abbrev pub timestamp_cell : ℕ → ℤ → Result Cell RowWhy
timestamp_cell at z = if is_between FIRST_INSTANT LAST_INSTANT z then Ok (cell.Timestamp z) else Err (why.OutOfRange at)

abbrev pub text_cell : ℕ → List ℕ → Result Cell RowWhy
text_cell at bytes = if is_utf8 bytes then Ok (cell.Str bytes) else Err (why.BadText at)

-- the cell of the value, if there is one
abbrev pub cell_for : {A : Type 0} → (A → Result Cell RowWhy) → Result Cell RowWhy → Option A → Result Cell RowWhy
cell_for read none (Some value) = read value
cell_for read none None = none

-- The last value of the column's field counts. Numbers are varints, and texts and bytes are of wire type 2; what the
-- field has in another wire type is passed over.
abbrev pub cell_from : ℕ → Kind → Mode → Source → List Record → Result Cell RowWhy
cell_from at kind.Int64 mode source records =
    cell_for (λ n. int_cell at (number_of source.field_type n)) (no_value at mode) (last_of (varints_of source.number records))
cell_from at kind.Bool mode source records =
    cell_for (λ n. Ok (cell.Bool (not (n == 0)))) (no_value at mode) (last_of (varints_of source.number records))
cell_from at kind.Str mode source records =
    cell_for (text_cell at) (no_value at mode) (last_of (payloads_of source.number records))
cell_from at kind.Bytes mode source records =
    cell_for (λ bytes. Ok (cell.Bytes bytes)) (no_value at mode) (last_of (payloads_of source.number records))
cell_from at kind.Date mode source records =
    cell_for (λ n. date_cell at (number_of source.field_type n)) (no_value at mode) (last_of (varints_of source.number records))
cell_from at kind.Timestamp mode source records =
    cell_for (λ n. timestamp_cell at (number_of source.field_type n)) (no_value at mode) (last_of (varints_of source.number records))

-- A column that no field is bound to has no value.
unfoldable pub cell_of : ℕ → BoundColumn → List Record → Result Cell RowWhy
cell_of at column records = cell_for (λ source. cell_from at column.kind column.mode source records) (no_value at column.mode) column.source
