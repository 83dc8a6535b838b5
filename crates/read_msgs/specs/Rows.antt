-- AvroRows, AvroSchema, ReadRowsRequest, ReadRowsResponse: how they are read.
use Rattle.std.specs.Prelude.{ℕ, List, Result, Ok}
use Rattle.write_msgs.specs.declared.faults.MsgFault.{MsgFault}
use Rattle.write_msgs.specs.Faults.{both}
use Rattle.write_msgs.specs.Reading.{◌>>=◌, records_of, text_in, int64_in, nested}
use Rattle.read_msgs.specs.declared.rows.AvroRows.{AvroRows}
use Rattle.read_msgs.specs.declared.rows.AvroSchema.{AvroSchema}
use Rattle.read_msgs.specs.declared.rows.ReadRowsRequest.{ReadRowsRequest}
use Rattle.read_msgs.specs.declared.rows.ReadRowsResponse.{ReadRowsResponse}
use Rattle.read_msgs.specs.declared.numbers.TheConstants.{SERIALIZED_BINARY_ROWS, SCHEMA, READ_STREAM, OFFSET, AVRO_ROWS, ROW_COUNT, ROWS_SCHEMA}
use Rattle.read_msgs.specs.Parts.{blob_in}

unfoldable pub avro_rows_of : List ℕ → Result AvroRows MsgFault
avro_rows_of bytes = do
  records ← records_of bytes
  Ok (record { serialized_binary_rows = blob_in SERIALIZED_BINARY_ROWS records })

unfoldable pub avro_schema_of : List ℕ → Result AvroSchema MsgFault
avro_schema_of bytes = do
  records ← records_of bytes
  schema ← text_in SCHEMA records
  Ok (record { schema = schema })

unfoldable pub read_rows_request_of : List ℕ → Result ReadRowsRequest MsgFault
read_rows_request_of bytes = do
  records ← records_of bytes
  read_stream ← text_in READ_STREAM records
  Ok (record { read_stream = read_stream; offset = int64_in OFFSET records })

unfoldable pub read_rows_response_of : List ℕ → Result ReadRowsResponse MsgFault
read_rows_response_of bytes = do
  records ← records_of bytes
  parts ← both (nested avro_rows_of AVRO_ROWS bytes records) (nested avro_schema_of ROWS_SCHEMA bytes records)
  Ok (record { avro_rows = parts.0; row_count = int64_in ROW_COUNT records; avro_schema = parts.1 })
