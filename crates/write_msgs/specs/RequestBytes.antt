-- How an AppendRowsRequest is written.
use Rattle.std.specs.Prelude.{ℕ, ℤ, List, ◌++◌}
use Rattle.std.specs.Option.{option_map}
use Rattle.proto_fields.specs.Message.{message_of}
use Rattle.write_msgs.specs.declared.request.AppendRowsRequest.{AppendRowsRequest}
use Rattle.write_msgs.specs.declared.request_parts.ProtoData.{ProtoData}
use Rattle.write_msgs.specs.declared.request_parts.ProtoRows.{ProtoRows}
use Rattle.write_msgs.specs.declared.request_parts.ProtoSchema.{ProtoSchema}
use Rattle.write_msgs.specs.declared.numbers.TheConstants.{WRITE_STREAM, OFFSET, PROTO_ROWS, WRITER_SCHEMA, ROWS, PROTO_DESCRIPTOR, SERIALIZED_ROWS, VALUE}
use Rattle.write_msgs.specs.Writing.{text_field, int_field, message_field, repeated_field}

unfoldable pub int64_value_bytes : ℤ → List ℕ
int64_value_bytes n = message_of (int_field VALUE n)

unfoldable pub proto_schema_bytes : ProtoSchema → List ℕ
proto_schema_bytes schema = message_of (message_field PROTO_DESCRIPTOR schema.proto_descriptor)

unfoldable pub proto_rows_bytes : ProtoRows → List ℕ
proto_rows_bytes rows = message_of (repeated_field SERIALIZED_ROWS rows.serialized_rows)

unfoldable pub proto_data_bytes : ProtoData → List ℕ
proto_data_bytes content =
    message_of (message_field WRITER_SCHEMA (option_map proto_schema_bytes content.writer_schema) ++ message_field ROWS (option_map proto_rows_bytes content.rows))

unfoldable pub append_rows_request_bytes : AppendRowsRequest → List ℕ
append_rows_request_bytes request =
    message_of (
    text_field WRITE_STREAM request.write_stream ++ message_field OFFSET (option_map int64_value_bytes request.offset)
    ++ message_field PROTO_ROWS (option_map proto_data_bytes request.proto_rows)
    )
