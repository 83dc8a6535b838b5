-- WriteStream, CreateWriteStreamRequest: how they are written.
use Rattle.std.specs.Prelude.{ℕ, List, ◌++◌}
use Rattle.std.specs.Option.{option_map}
use Rattle.proto_fields.specs.Message.{message_of}
use Rattle.write_msgs.specs.Writing.{text_field, int_field, message_field}
use Rattle.write_msgs.specs.CommitPartsBytes.{timestamp_bytes}
use Rattle.schema_msgs.specs.declared.write_streams.WriteStream.{WriteStream}
use Rattle.schema_msgs.specs.declared.write_streams.CreateWriteStreamRequest.{CreateWriteStreamRequest}
use Rattle.schema_msgs.specs.declared.numbers.TheConstants.{STREAM_NAME, STREAM_TYPE, CREATE_TIME, COMMIT_TIME, TABLE_SCHEMA, PARENT, WRITE_STREAM}
use Rattle.schema_msgs.specs.SchemaBytes.{table_schema_bytes}

unfoldable pub write_stream_bytes : WriteStream → List ℕ
write_stream_bytes stream =
    message_of (
    text_field STREAM_NAME stream.name ++ int_field STREAM_TYPE stream.stream_type ++ message_field CREATE_TIME (option_map timestamp_bytes stream.create_time)
    ++ message_field COMMIT_TIME (option_map timestamp_bytes stream.commit_time) ++ message_field TABLE_SCHEMA (option_map table_schema_bytes stream.table_schema)
    )

unfoldable pub create_write_stream_request_bytes : CreateWriteStreamRequest → List ℕ
create_write_stream_request_bytes request = message_of (text_field PARENT request.parent ++ message_field WRITE_STREAM (option_map write_stream_bytes request.write_stream))
