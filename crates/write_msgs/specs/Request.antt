-- An AppendRowsRequest and the messages within it.
use Rattle.std.specs.Prelude.{ℕ, ℤ, List, Result, Ok, Option}
use Rattle.proto_fields.specs.Record.{Record}
use Rattle.proto_fields.specs.Selection.{merged_of, payloads_of}
use Rattle.write_msgs.specs.declared.faults.MsgFault.{MsgFault}
use Rattle.write_msgs.specs.declared.request.AppendRowsRequest.{AppendRowsRequest}
use Rattle.write_msgs.specs.declared.request_parts.ProtoData.{ProtoData}
use Rattle.write_msgs.specs.declared.request_parts.ProtoRows.{ProtoRows}
use Rattle.write_msgs.specs.declared.request_parts.ProtoSchema.{ProtoSchema}
use Rattle.write_msgs.specs.declared.numbers.TheConstants.{WRITE_STREAM, OFFSET, PROTO_ROWS, ARROW_ROWS, WRITER_SCHEMA, ROWS, PROTO_DESCRIPTOR, SERIALIZED_ROWS, VALUE}
use Rattle.write_msgs.specs.Faults.{both}
use Rattle.write_msgs.specs.Reading.{◌>>=◌, records_of, text_in, int64_in, without, nested}

unfoldable pub int64_value_of : List ℕ → Result ℤ MsgFault
int64_value_of bytes = do
  records ← records_of bytes
  Ok (int64_in VALUE records)

unfoldable pub proto_schema_of : List ℕ → Result ProtoSchema MsgFault
proto_schema_of bytes = do
  records ← records_of bytes
  Ok (record { proto_descriptor = merged_of (payloads_of PROTO_DESCRIPTOR records) })

unfoldable pub proto_rows_of : List ℕ → Result ProtoRows MsgFault
proto_rows_of bytes = do
  records ← records_of bytes
  Ok (record { serialized_rows = payloads_of SERIALIZED_ROWS records })

unfoldable pub proto_data_of : List ℕ → Result ProtoData MsgFault
proto_data_of bytes = do
  records ← records_of bytes
  parts ← both (nested proto_schema_of WRITER_SCHEMA bytes records) (nested proto_rows_of ROWS bytes records)
  Ok (record { writer_schema = parts.0; rows = parts.1 })

-- its name and its offset
abbrev pub place_in : List ℕ → List Record → Result (List ℕ × Option ℤ) MsgFault
place_in bytes records = both (text_in WRITE_STREAM records) (nested int64_value_of OFFSET bytes records)

-- its rows, which are not in the ARROW format
abbrev pub data_in : List ℕ → List Record → Result (Option ProtoData × Unit {0}) MsgFault
data_in bytes records = both (nested proto_data_of PROTO_ROWS bytes records) (without ARROW_ROWS records)

unfoldable pub append_rows_request_of : List ℕ → Result AppendRowsRequest MsgFault
append_rows_request_of bytes = do
  records ← records_of bytes
  parts ← both (place_in bytes records) (data_in bytes records)
  Ok (record { write_stream = parts.0.0; offset = parts.0.1; proto_rows = parts.1.0 })
