-- What is written of a message reads back as the same message. The premises are what the types of its parts say: texts
-- are UTF-8, and numbers have 64 or 32 bits with a sign.
use Rattle.std.specs.Prelude.{◌≡◌, ◌<◌, ◌^◌, length, IfSome, Ok, FitsSigned}
use Rattle.std.specs.Int.{w32, w64}
use Rattle.std.specs.Str.{IsUtf8}
use Rattle.write_msgs.specs.declared.commit_parts.Timestamp.{Timestamp}
use Rattle.schema_msgs.specs.declared.schemas.TableFieldSchema.{TableFieldSchema}
use Rattle.schema_msgs.specs.declared.schemas.TableSchema.{TableSchema}
use Rattle.schema_msgs.specs.declared.write_streams.WriteStream.{WriteStream}
use Rattle.schema_msgs.specs.declared.write_streams.CreateWriteStreamRequest.{CreateWriteStreamRequest}
use Rattle.schema_msgs.specs.Fields.{Fields, NoFields, Field}
use Rattle.schema_msgs.specs.Schema.{table_field_schema_of, table_schema_of}
use Rattle.schema_msgs.specs.SchemaBytes.{table_field_schema_bytes, table_schema_bytes}
use Rattle.schema_msgs.specs.Stream.{write_stream_of, create_write_stream_request_of}
use Rattle.schema_msgs.specs.StreamBytes.{write_stream_bytes, create_write_stream_request_bytes}

-- each of these fields, and each within one of them
unfoldable pub AreFields : Fields → Type 0
AreFields NoFields = Unit {0}
AreFields (Field name column_type mode within others) = IsUtf8 name × (FitsSigned w32 column_type × (FitsSigned w32 mode × (AreFields within × AreFields others)))

pub record IsField (field : TableFieldSchema) : Type 0 where
  pub name : IsUtf8 field.name
  pub column_type : FitsSigned w32 field.column_type
  pub mode : FitsSigned w32 field.mode
  pub fields : AreFields field.fields

abbrev pub FieldsReadBack : Type 0
FieldsReadBack = (field : TableFieldSchema) → IsField field → length (table_field_schema_bytes field) < 2 ^ 32 → table_field_schema_of (table_field_schema_bytes field) ≡ Ok field

pub record IsSchema (schema : TableSchema) : Type 0 where
  pub fields : AreFields schema.fields

abbrev pub SchemasReadBack : Type 0
SchemasReadBack = (schema : TableSchema) → IsSchema schema → length (table_schema_bytes schema) < 2 ^ 32 → table_schema_of (table_schema_bytes schema) ≡ Ok schema

pub record IsTime (moment : Timestamp) : Type 0 where
  pub seconds : FitsSigned w64 moment.seconds
  pub nanos : FitsSigned w32 moment.nanos

pub record IsStream (stream : WriteStream) : Type 0 where
  pub name : IsUtf8 stream.name
  pub stream_type : FitsSigned w32 stream.stream_type
  pub create_time : IfSome stream.create_time IsTime
  pub commit_time : IfSome stream.commit_time IsTime
  pub table_schema : IfSome stream.table_schema IsSchema

abbrev pub StreamsReadBack : Type 0
StreamsReadBack = (stream : WriteStream) → IsStream stream → length (write_stream_bytes stream) < 2 ^ 32 → write_stream_of (write_stream_bytes stream) ≡ Ok stream

pub record IsCreateRequest (request : CreateWriteStreamRequest) : Type 0 where
  pub parent : IsUtf8 request.parent
  pub write_stream : IfSome request.write_stream IsStream

abbrev pub CreateRequestsReadBack : Type 0
CreateRequestsReadBack =
    (request : CreateWriteStreamRequest) → IsCreateRequest request → length (create_write_stream_request_bytes request) < 2 ^ 32
    → create_write_stream_request_of (create_write_stream_request_bytes request) ≡ Ok request
