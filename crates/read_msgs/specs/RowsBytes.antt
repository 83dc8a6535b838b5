-- AvroRows, AvroSchema, ReadRowsRequest, ReadRowsResponse: how they are written. Bytes are written as a text is.
use Rattle.std.specs.Prelude.{ℕ, List, ◌++◌}
use Rattle.std.specs.Option.{option_map}
use Rattle.proto_fields.specs.Message.{message_of}
use Rattle.write_msgs.specs.Writing.{text_field, int_field, message_field}
use Rattle.read_msgs.specs.declared.rows.AvroRows.{AvroRows}
use Rattle.read_msgs.specs.declared.rows.AvroSchema.{AvroSchema}
use Rattle.read_msgs.specs.declared.rows.ReadRowsRequest.{ReadRowsRequest}
use Rattle.read_msgs.specs.declared.rows.ReadRowsResponse.{ReadRowsResponse}
use Rattle.read_msgs.specs.declared.numbers.TheConstants.{SERIALIZED_BINARY_ROWS, SCHEMA, READ_STREAM, OFFSET, AVRO_ROWS, ROW_COUNT, ROWS_SCHEMA}

unfoldable pub avro_rows_bytes : AvroRows → List ℕ
avro_rows_bytes rows = message_of (text_field SERIALIZED_BINARY_ROWS rows.serialized_binary_rows)

unfoldable pub avro_schema_bytes : AvroSchema → List ℕ
avro_schema_bytes schema = message_of (text_field SCHEMA schema.schema)

unfoldable pub read_rows_request_bytes : ReadRowsRequest → List ℕ
read_rows_request_bytes request = message_of (text_field READ_STREAM request.read_stream ++ int_field OFFSET request.offset)

unfoldable pub read_rows_response_bytes : ReadRowsResponse → List ℕ
read_rows_response_bytes response =
    message_of (
    message_field AVRO_ROWS (option_map avro_rows_bytes response.avro_rows) ++ int_field ROW_COUNT response.row_count
    ++ message_field ROWS_SCHEMA (option_map avro_schema_bytes response.avro_schema)
    )
