-- How an AppendRowsResponse is written.
use Rattle.std.specs.Prelude.{ℕ, List, map, ◌++◌}
use Rattle.std.specs.Option.{option_map}
use Rattle.proto_fields.specs.Message.{message_of}
use Rattle.write_msgs.specs.declared.response.AppendRowsResponse.{AppendRowsResponse}
use Rattle.write_msgs.specs.declared.response_parts.AppendResult.{AppendResult}
use Rattle.write_msgs.specs.declared.response_parts.Status.{Status}
use Rattle.write_msgs.specs.declared.response_parts.RowError.{RowError}
use Rattle.write_msgs.specs.declared.numbers.TheConstants.{APPEND_RESULT, ERROR, ROW_ERRORS, RESPONSE_STREAM, RESULT_OFFSET, CODE, MESSAGE, INDEX, ROW_CODE, ROW_MESSAGE}
use Rattle.write_msgs.specs.Writing.{text_field, int_field, message_field, repeated_field}
use Rattle.write_msgs.specs.RequestBytes.{int64_value_bytes}

unfoldable pub append_result_bytes : AppendResult → List ℕ
append_result_bytes appended = message_of (message_field RESULT_OFFSET (option_map int64_value_bytes appended.offset))

unfoldable pub status_bytes : Status → List ℕ
status_bytes status = message_of (int_field CODE status.code ++ text_field MESSAGE status.message)

unfoldable pub row_error_bytes : RowError → List ℕ
row_error_bytes error = message_of (int_field INDEX error.index ++ int_field ROW_CODE error.code ++ text_field ROW_MESSAGE error.message)

unfoldable pub append_rows_response_bytes : AppendRowsResponse → List ℕ
append_rows_response_bytes response =
    message_of (
    message_field APPEND_RESULT (option_map append_result_bytes response.append_result) ++ message_field ERROR (option_map status_bytes response.error)
    ++ repeated_field ROW_ERRORS (map row_error_bytes response.row_errors) ++ text_field RESPONSE_STREAM response.write_stream
    )
