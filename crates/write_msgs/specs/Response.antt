-- An AppendRowsResponse and the messages within it.
use Rattle.std.specs.Prelude.{ℕ, List, Result, Ok, Option}
use Rattle.proto_fields.specs.Record.{Record}
use Rattle.write_msgs.specs.declared.faults.MsgFault.{MsgFault}
use Rattle.write_msgs.specs.declared.response.AppendRowsResponse.{AppendRowsResponse}
use Rattle.write_msgs.specs.declared.response_parts.AppendResult.{AppendResult}
use Rattle.write_msgs.specs.declared.response_parts.Status.{Status}
use Rattle.write_msgs.specs.declared.response_parts.RowError.{RowError}
use Rattle.write_msgs.specs.declared.numbers.TheConstants.{APPEND_RESULT, ERROR, ROW_ERRORS, RESPONSE_STREAM, RESULT_OFFSET, CODE, MESSAGE, INDEX, ROW_CODE, ROW_MESSAGE}
use Rattle.write_msgs.specs.Faults.{both}
use Rattle.write_msgs.specs.Reading.{◌>>=◌, records_of, text_in, int64_in, int32_in, nested}
use Rattle.write_msgs.specs.Repeated.{repeated}
use Rattle.write_msgs.specs.Request.{int64_value_of}

unfoldable pub append_result_of : List ℕ → Result AppendResult MsgFault
append_result_of bytes = do
  records ← records_of bytes
  offset ← nested int64_value_of RESULT_OFFSET bytes records
  Ok (record { offset = offset })

unfoldable pub status_of : List ℕ → Result Status MsgFault
status_of bytes = do
  records ← records_of bytes
  message ← text_in MESSAGE records
  Ok (record { code = int32_in CODE records; message = message })

unfoldable pub row_error_of : List ℕ → Result RowError MsgFault
row_error_of bytes = do
  records ← records_of bytes
  message ← text_in ROW_MESSAGE records
  Ok (record { index = int64_in INDEX records; code = int32_in ROW_CODE records; message = message })

-- what an accepted append was given, or why it was refused
abbrev pub outcome_in : List ℕ → List Record → Result (Option AppendResult × Option Status) MsgFault
outcome_in bytes records = both (nested append_result_of APPEND_RESULT bytes records) (nested status_of ERROR bytes records)

-- the errors of its rows, and the name of its write stream
abbrev pub rows_and_name_in : List ℕ → List Record → Result (List RowError × List ℕ) MsgFault
rows_and_name_in bytes records = both (repeated row_error_of ROW_ERRORS bytes records) (text_in RESPONSE_STREAM records)

unfoldable pub append_rows_response_of : List ℕ → Result AppendRowsResponse MsgFault
append_rows_response_of bytes = do
  records ← records_of bytes
  parts ← both (outcome_in bytes records) (rows_and_name_in bytes records)
  Ok (record { append_result = parts.0.0; error = parts.0.1; row_errors = parts.1.0; write_stream = parts.1.1 })
