-- GetWriteStreamRequest, FinalizeWriteStreamRequest, FinalizeWriteStreamResponse, FlushRowsRequest, FlushRowsResponse: how they are written.
use Rattle.std.specs.Prelude.{ℕ, List, ◌++◌}
use Rattle.std.specs.Option.{option_map}
use Rattle.proto_fields.specs.Message.{message_of}
use Rattle.write_msgs.specs.declared.stream_calls.GetWriteStreamRequest.{GetWriteStreamRequest}
use Rattle.write_msgs.specs.declared.stream_calls.FinalizeWriteStreamRequest.{FinalizeWriteStreamRequest}
use Rattle.write_msgs.specs.declared.stream_calls.FinalizeWriteStreamResponse.{FinalizeWriteStreamResponse}
use Rattle.write_msgs.specs.declared.stream_calls.FlushRowsRequest.{FlushRowsRequest}
use Rattle.write_msgs.specs.declared.stream_calls.FlushRowsResponse.{FlushRowsResponse}
use Rattle.write_msgs.specs.declared.numbers.TheConstants.{FLUSHED_OFFSET, FLUSHED_STREAM, FLUSH_OFFSET, NAME, ROW_COUNT, VIEW}
use Rattle.write_msgs.specs.Writing.{text_field, int_field, message_field}
use Rattle.write_msgs.specs.RequestBytes.{int64_value_bytes}

unfoldable pub get_write_stream_request_bytes : GetWriteStreamRequest → List ℕ
get_write_stream_request_bytes message = message_of (text_field NAME message.name ++ int_field VIEW message.view)

unfoldable pub finalize_write_stream_request_bytes : FinalizeWriteStreamRequest → List ℕ
finalize_write_stream_request_bytes message = message_of (text_field NAME message.name)

unfoldable pub finalize_write_stream_response_bytes : FinalizeWriteStreamResponse → List ℕ
finalize_write_stream_response_bytes message = message_of (int_field ROW_COUNT message.row_count)

unfoldable pub flush_rows_request_bytes : FlushRowsRequest → List ℕ
flush_rows_request_bytes message = message_of (text_field FLUSHED_STREAM message.write_stream ++ message_field FLUSH_OFFSET (option_map int64_value_bytes message.offset))

unfoldable pub flush_rows_response_bytes : FlushRowsResponse → List ℕ
flush_rows_response_bytes message = message_of (int_field FLUSHED_OFFSET message.offset)
