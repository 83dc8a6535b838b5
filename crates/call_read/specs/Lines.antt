-- A column as a line of a schema's outline.
use Rattle.column_types.specs.declared.column.Column.{Column}
use Rattle.schema_msgs.specs.declared.nested_fields.NestedField.{NestedField}
use Rattle.call_plans.specs.Columns.{type_code, mode_code}

-- it lies within no other
abbrev pub line_of : Column → NestedField
line_of column = record { depth = 0; name = column.name; column_type = type_code column.kind; mode = mode_code column.mode }
