-- Which types of fields a column of each kind is read from.
use Rattle.std.specs.Prelude.{Bool, true, false}
use Rattle.column_types.specs.declared.column.Kind.{Kind}
use Rattle.column_types.specs.declared.column.Kind.TheVariants as kind
use Rattle.row_descriptor.specs.declared.field.FieldType.{FieldType}
use Rattle.row_descriptor.specs.declared.field.FieldType.TheVariants as type

abbrev pub accepts : Kind → FieldType → Bool
accepts kind.Int64 type.Int64 = true
accepts kind.Int64 type.Uint64 = true
accepts kind.Int64 type.Int32 = true
accepts kind.Int64 type.Uint32 = true
accepts kind.Int64 type.Enum = true
accepts kind.Int64 type.Sint32 = true
accepts kind.Int64 type.Sint64 = true
accepts kind.Bool type.Bool = true
accepts kind.Str type.Str = true
accepts kind.Bytes type.Bytes = true
accepts kind.Bytes type.Str = true
accepts kind.Date type.Int32 = true
accepts kind.Date type.Int64 = true
accepts kind.Date type.Sint32 = true
accepts kind.Date type.Sint64 = true
accepts kind.Timestamp type.Int64 = true
accepts kind.Timestamp type.Int32 = true
accepts kind.Timestamp type.Uint32 = true
accepts kind.Timestamp type.Sint64 = true
accepts _ _ = false
