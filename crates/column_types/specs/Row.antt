-- When a row fits a schema: one cell for each column, of its kind and within the kind's range, and NULL only where
-- the column is NULLABLE.
use Rattle.std.specs.Prelude.{ℤ, Bool, true, false, ◌&&◌, ◌==◌, List, length, int_le, IsTrue}
use Rattle.std.specs.List.{list_all, zip}
use Rattle.std.specs.Str.{is_utf8}
use Rattle.column_types.specs.declared.column.Kind.{Kind}
use Rattle.column_types.specs.declared.column.Kind.TheVariants as kind
use Rattle.column_types.specs.declared.column.Mode.{Mode}
use Rattle.column_types.specs.declared.column.Mode.TheVariants as mode
use Rattle.column_types.specs.declared.column.Column.{Column}
use Rattle.column_types.specs.declared.cell.Cell.{Cell}
use Rattle.column_types.specs.declared.cell.Cell.TheVariants as cell
use Rattle.column_types.specs.declared.ranges.TheConstants.{LEAST_INT64, GREATEST_INT64, FIRST_DAY, LAST_DAY, FIRST_INSTANT, LAST_INSTANT}

abbrev pub is_between : ℤ → ℤ → ℤ → Bool
is_between low high value = int_le low value && int_le value high

-- a value of a column of this kind, other than NULL
abbrev pub is_of_kind : Kind → Cell → Bool
is_of_kind kind.Int64 (cell.Int value) = is_between LEAST_INT64 GREATEST_INT64 value
is_of_kind kind.Bool (cell.Bool value) = true
is_of_kind kind.Str (cell.Str text) = is_utf8 text
is_of_kind kind.Bytes (cell.Bytes bytes) = true
is_of_kind kind.Date (cell.Date day) = is_between FIRST_DAY LAST_DAY day
is_of_kind kind.Timestamp (cell.Timestamp instant) = is_between FIRST_INSTANT LAST_INSTANT instant
is_of_kind _ _ = false

abbrev pub is_nullable : Mode → Bool
is_nullable mode.Nullable = true
is_nullable mode.Required = false

abbrev pub fits_column : Column → Cell → Bool
fits_column column cell.Null = is_nullable column.mode
fits_column column value = is_of_kind column.kind value

abbrev pub fits_columns : List Column → List Cell → Bool
fits_columns columns row = length columns == length row && list_all (λ pair. fits_column pair.0 pair.1) (zip columns row)

-- A row fits a schema.
abbrev pub Fits : List Column → List Cell → Type 0
Fits columns row = IsTrue (fits_columns columns row)
