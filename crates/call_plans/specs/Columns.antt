-- The columns of a table as a TableSchema (TableFieldSchema.Type and TableFieldSchema.Mode).
use Rattle.std.specs.Prelude.{ℤ, pos, List, [], ◌∷◌}
use Rattle.column_types.specs.declared.column.Column.{Column}
use Rattle.column_types.specs.declared.column.Kind.{Kind}
use Rattle.column_types.specs.declared.column.Kind.TheVariants as kind
use Rattle.column_types.specs.declared.column.Mode.{Mode}
use Rattle.column_types.specs.declared.column.Mode.TheVariants as mode
use Rattle.schema_msgs.specs.declared.schemas.TableSchema.{TableSchema}
use Rattle.schema_msgs.specs.Fields.{Fields, NoFields, Field}

abbrev pub type_code : Kind → ℤ
type_code kind.Str = pos 1
type_code kind.Int64 = pos 2
type_code kind.Bytes = pos 5
type_code kind.Bool = pos 6
type_code kind.Timestamp = pos 7
type_code kind.Date = pos 8

abbrev pub mode_code : Mode → ℤ
mode_code mode.Nullable = pos 1
mode_code mode.Required = pos 2

-- a field for each column, with none within it
unfoldable pub fields_of : List Column → Fields
fields_of [] = NoFields
fields_of (column ∷ columns) = Field column.name (type_code column.kind) (mode_code column.mode) NoFields (fields_of columns)

abbrev pub schema_of : List Column → TableSchema
schema_of columns = record { fields = fields_of columns }
