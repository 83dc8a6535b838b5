-- A row as the Avro specification's "Binary Encoding" writes it: a record is its fields in order, a NULLABLE column is
-- the union ["null", T], and T is long, boolean, string, bytes, and int for a day and long for an instant.
use Rattle.std.specs.Prelude.{ℕ, pos, Bool, true, List, [], ◌∷◌, ◌++◌, length, if◌then◌else◌}
use Rattle.column_types.specs.declared.column.Kind.{Kind}
use Rattle.column_types.specs.declared.column.Mode.{Mode}
use Rattle.column_types.specs.declared.column.Mode.TheVariants as mode
use Rattle.column_types.specs.declared.column.Column.{Column}
use Rattle.column_types.specs.declared.cell.Cell.{Cell}
use Rattle.column_types.specs.declared.cell.Cell.TheVariants as cell
use Rattle.column_types.specs.Row.{is_of_kind}
use Rattle.avro_rows.specs.Long.{long_of}

-- bytes and strings: their length as a long, and then they
abbrev pub counted : List ℕ → List ℕ
counted bytes = long_of (pos (length bytes)) ++ bytes

-- null takes no byte
abbrev pub value_datum : Cell → List ℕ
value_datum cell.Null = []
value_datum (cell.Int value) = long_of value
value_datum (cell.Bool value) = (if value then 1 else 0) ∷ []
value_datum (cell.Str text) = counted text
value_datum (cell.Bytes bytes) = counted bytes
value_datum (cell.Date day) = long_of day
value_datum (cell.Timestamp instant) = long_of instant

-- A union is the place of its branch, as a long, and then the value: null is at 0, written 0, and T at 1, written 2.
abbrev pub cell_datum : Mode → Cell → List ℕ
cell_datum mode.Required value = value_datum value
cell_datum mode.Nullable cell.Null = 0 ∷ []
cell_datum mode.Nullable value = 2 ∷ value_datum value

-- what a NULLABLE column of this kind holds
abbrev pub is_null_or : Kind → Cell → Bool
is_null_or kind cell.Null = true
is_null_or kind value = is_of_kind kind value

abbrev pub datum_of : List Column → List Cell → List ℕ
datum_of [] row = []
datum_of (column ∷ columns) [] = []
datum_of (column ∷ columns) (value ∷ row) = cell_datum column.mode value ++ datum_of columns row
