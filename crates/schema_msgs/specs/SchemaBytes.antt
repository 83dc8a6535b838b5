-- TableFieldSchema, TableSchema: how they are written.
use Rattle.std.specs.Prelude.{ℕ, ℤ, List, [], ◌∷◌, ◌++◌}
use Rattle.proto_fields.specs.Record.{Record}
use Rattle.proto_fields.specs.Message.{message_of}
use Rattle.write_msgs.specs.Writing.{bytes_field, text_field, int_field}
use Rattle.schema_msgs.specs.declared.schemas.TableFieldSchema.{TableFieldSchema}
use Rattle.schema_msgs.specs.declared.schemas.TableSchema.{TableSchema}
use Rattle.schema_msgs.specs.declared.numbers.TheConstants.{SCHEMA_FIELDS, FIELD_NAME, COLUMN_TYPE, MODE, FIELDS}
use Rattle.schema_msgs.specs.Fields.{Fields, NoFields, Field}

-- what a field's message says of the field itself
abbrev pub own_records : List ℕ → ℤ → ℤ → List Record
own_records name column_type mode = text_field FIELD_NAME name ++ int_field COLUMN_TYPE column_type ++ int_field MODE mode

-- Fields as occurrences of one field of a message, in order, each a message with those within it.
unfoldable pub field_records : ℕ → Fields → List Record
field_records number NoFields = []
field_records number (Field name column_type mode within others) =
    bytes_field number (message_of (own_records name column_type mode ++ field_records FIELDS within)) ∷ field_records number others

unfoldable pub table_field_schema_bytes : TableFieldSchema → List ℕ
table_field_schema_bytes field = message_of (own_records field.name field.column_type field.mode ++ field_records FIELDS field.fields)

unfoldable pub table_schema_bytes : TableSchema → List ℕ
table_schema_bytes schema = message_of (field_records SCHEMA_FIELDS schema.fields)
