-- WriteStream, CreateWriteStreamRequest: how they are read.
use Rattle.std.specs.Prelude.{ℕ, List, Result, Ok, Option}
use Rattle.proto_fields.specs.Record.{Record}
use Rattle.write_msgs.specs.declared.faults.MsgFault.{MsgFault}
use Rattle.write_msgs.specs.declared.commit_parts.Timestamp.{Timestamp}
use Rattle.write_msgs.specs.Faults.{both}
use Rattle.write_msgs.specs.Reading.{◌>>=◌, records_of, text_in, int32_in, nested}
use Rattle.write_msgs.specs.CommitParts.{timestamp_of}
use Rattle.schema_msgs.specs.declared.schemas.TableSchema.{TableSchema}
use Rattle.schema_msgs.specs.declared.write_streams.WriteStream.{WriteStream}
use Rattle.schema_msgs.specs.declared.write_streams.CreateWriteStreamRequest.{CreateWriteStreamRequest}
use Rattle.schema_msgs.specs.declared.numbers.TheConstants.{STREAM_NAME, STREAM_TYPE, CREATE_TIME, COMMIT_TIME, TABLE_SCHEMA, PARENT, WRITE_STREAM}
use Rattle.schema_msgs.specs.Schema.{table_schema_of}

-- its moments
abbrev pub times_in : List ℕ → List Record → Result (Option Timestamp × Option Timestamp) MsgFault
times_in bytes records = both (nested timestamp_of CREATE_TIME bytes records) (nested timestamp_of COMMIT_TIME bytes records)

-- its name, and the schema of its table
abbrev pub name_and_schema_in : List ℕ → List Record → Result (List ℕ × Option TableSchema) MsgFault
name_and_schema_in bytes records = both (text_in STREAM_NAME records) (nested table_schema_of TABLE_SCHEMA bytes records)

unfoldable pub write_stream_of : List ℕ → Result WriteStream MsgFault
write_stream_of bytes = do
  records ← records_of bytes
  parts ← both (times_in bytes records) (name_and_schema_in bytes records)
  Ok (record { name = parts.1.0; stream_type = int32_in STREAM_TYPE records; create_time = parts.0.0; commit_time = parts.0.1; table_schema = parts.1.1 })

unfoldable pub create_write_stream_request_of : List ℕ → Result CreateWriteStreamRequest MsgFault
create_write_stream_request_of bytes = do
  records ← records_of bytes
  parts ← both (text_in PARENT records) (nested write_stream_of WRITE_STREAM bytes records)
  Ok (record { parent = parts.0; write_stream = parts.1 })
