-- GetWriteStreamRequest, FinalizeWriteStreamRequest, FinalizeWriteStreamResponse, FlushRowsRequest, FlushRowsResponse: how they are read.
use Rattle.std.specs.Prelude.{ℕ, List, Result, Ok}
use Rattle.write_msgs.specs.declared.faults.MsgFault.{MsgFault}
use Rattle.write_msgs.specs.declared.stream_calls.GetWriteStreamRequest.{GetWriteStreamRequest}
use Rattle.write_msgs.specs.declared.stream_calls.FinalizeWriteStreamRequest.{FinalizeWriteStreamRequest}
use Rattle.write_msgs.specs.declared.stream_calls.FinalizeWriteStreamResponse.{FinalizeWriteStreamResponse}
use Rattle.write_msgs.specs.declared.stream_calls.FlushRowsRequest.{FlushRowsRequest}
use Rattle.write_msgs.specs.declared.stream_calls.FlushRowsResponse.{FlushRowsResponse}
use Rattle.write_msgs.specs.declared.numbers.TheConstants.{FLUSHED_OFFSET, FLUSHED_STREAM, FLUSH_OFFSET, NAME, ROW_COUNT, VIEW}
use Rattle.write_msgs.specs.Faults.{both}
use Rattle.write_msgs.specs.Reading.{◌>>=◌, records_of, text_in, int64_in, int32_in, nested}
use Rattle.write_msgs.specs.Request.{int64_value_of}

unfoldable pub get_write_stream_request_of : List ℕ → Result GetWriteStreamRequest MsgFault
get_write_stream_request_of bytes = do
  records ← records_of bytes
  name ← text_in NAME records
  Ok (record { name = name; view = int32_in VIEW records })

unfoldable pub finalize_write_stream_request_of : List ℕ → Result FinalizeWriteStreamRequest MsgFault
finalize_write_stream_request_of bytes = do
  records ← records_of bytes
  name ← text_in NAME records
  Ok (record { name = name })

unfoldable pub finalize_write_stream_response_of : List ℕ → Result FinalizeWriteStreamResponse MsgFault
finalize_write_stream_response_of bytes = do
  records ← records_of bytes
  Ok (record { row_count = int64_in ROW_COUNT records })

unfoldable pub flush_rows_request_of : List ℕ → Result FlushRowsRequest MsgFault
flush_rows_request_of bytes = do
  records ← records_of bytes
  parts ← both (text_in FLUSHED_STREAM records) (nested int64_value_of FLUSH_OFFSET bytes records)
  Ok (record { write_stream = parts.0; offset = parts.1 })

unfoldable pub flush_rows_response_of : List ℕ → Result FlushRowsResponse MsgFault
flush_rows_response_of bytes = do
  records ← records_of bytes
  Ok (record { offset = int64_in FLUSHED_OFFSET records })
