-- TableFieldSchema, TableSchema: how they are read.
use Rattle.std.specs.Prelude.{ℕ, zero, suc, ◌+◌, List, [], ◌∷◌, length, Result, Ok, Err}
use Rattle.proto_fields.specs.Record.{Record}
use Rattle.write_msgs.specs.declared.faults.MsgFault.{MsgFault}
use Rattle.write_msgs.specs.declared.faults.MsgFault.TheVariants as fault
use Rattle.write_msgs.specs.Faults.{both}
use Rattle.write_msgs.specs.Reading.{◌>>=◌, records_of, text_in, int32_in}
use Rattle.write_msgs.specs.Repeated.{repeated}
use Rattle.schema_msgs.specs.declared.schemas.TableFieldSchema.{TableFieldSchema}
use Rattle.schema_msgs.specs.declared.schemas.TableSchema.{TableSchema}
use Rattle.schema_msgs.specs.declared.numbers.TheConstants.{SCHEMA_FIELDS, FIELD_NAME, COLUMN_TYPE, MODE, FIELDS}
use Rattle.schema_msgs.specs.Fields.{Fields, NoFields, Field}

-- these messages as a list of fields
unfoldable pub gathered : List TableFieldSchema → Fields
gathered [] = NoFields
gathered (f ∷ fs) = Field f.name f.column_type f.mode f.fields (gathered fs)

-- the fields in the occurrences of one field of a message, each of which is a message by itself
abbrev pub fields_in : (List ℕ → Result TableFieldSchema MsgFault) → ℕ → List ℕ → List Record → Result Fields MsgFault
fields_in read number bytes records = repeated read number bytes records >>= λ fields. Ok (gathered fields)

-- A TableFieldSchema, given how those within it are read.
abbrev pub field_by : (List ℕ → Result TableFieldSchema MsgFault) → List ℕ → Result TableFieldSchema MsgFault
field_by read bytes = do
  records ← records_of bytes
  parts ← both (text_in FIELD_NAME records) (fields_in read FIELDS bytes records)
  Ok (record { name = parts.0; column_type = int32_in COLUMN_TYPE records; mode = int32_in MODE records; fields = parts.1 })

-- A TableFieldSchema that has so many levels at most: it, those within it, and so on.
unfoldable pub field_within : ℕ → List ℕ → Result TableFieldSchema MsgFault
field_within zero bytes = Err (fault.BadProto 0)
field_within (suc levels) bytes = field_by (field_within levels) bytes

-- A message has fewer levels within it than bytes, since each has a tag. So this bound is never met: a TableFieldSchema is
-- what field_by says of it, where those within it are read in the same way.
unfoldable pub table_field_schema_of : List ℕ → Result TableFieldSchema MsgFault
table_field_schema_of bytes = field_within (length bytes + 1) bytes

unfoldable pub table_schema_of : List ℕ → Result TableSchema MsgFault
table_schema_of bytes = do
  records ← records_of bytes
  fields ← fields_in table_field_schema_of SCHEMA_FIELDS bytes records
  Ok (record { fields = fields })
