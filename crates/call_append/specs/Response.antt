-- The AppendRowsResponse to a message.
use Rattle.std.specs.Prelude.{ℕ, ℤ, pos, List, [], map, Option, Some, None}
use Rattle.std.specs.Int.{w64, cast_signed}
use Rattle.std.specs.Option.{option_map}
use Rattle.column_types.specs.declared.column.Column.{Column}
use Rattle.table_model.specs.declared.reasons.Why.{Why}
use Rattle.table_model.specs.declared.reasons.Why.TheVariants as why
use Rattle.table_model.specs.declared.replies.Reply.{Reply}
use Rattle.table_model.specs.declared.replies.Reply.TheVariants as reply
use Rattle.table_model.specs.Reasons.{code_of}
use Rattle.row_decode.specs.declared.faults.RowFault.{RowFault}
use Rattle.write_msgs.specs.declared.response.AppendRowsResponse.{AppendRowsResponse}
use Rattle.write_msgs.specs.declared.response_parts.AppendResult.{AppendResult}
use Rattle.write_msgs.specs.declared.response_parts.RowError.{RowError}
use Rattle.write_msgs.specs.declared.response_parts.Status.{Status}
use Rattle.call_append.specs.declared.responses.TheConstants.{FIELDS_ERROR}
use Rattle.call_append.specs.Texts.{cause_text, row_text}
use Rattle.call_append.specs.Asking.{Faulty}

-- the offset of the first row, where the stream has offsets
abbrev pub accepted : Option ℕ → AppendRowsResponse
accepted offset = record {
  append_result = Some (record { offset = option_map (cast_signed w64) offset });
  error = None;
  row_errors = [];
  write_stream = [];
}

abbrev pub row_error : List Column → RowFault → RowError
row_error columns fault = record { index = pos fault.index; code = pos FIELDS_ERROR; message = row_text columns fault.why }

-- the cause of a refusal, and the rows at fault
abbrev pub refused : List Column → Why → List RowFault → AppendRowsResponse
refused columns cause faults = record {
  append_result = None;
  error = Some (record { code = pos (code_of cause); message = cause_text cause });
  row_errors = map (row_error columns) faults;
  write_stream = [];
}

-- What a table tells of an append: a table answers none with another reply than these two.
abbrev pub told : List Column → Reply → AppendRowsResponse
told columns (reply.Appended offset) = accepted offset
told columns (reply.Refused refusal) = refused columns refusal.why []
told columns _ = accepted None

-- What it tells where the rows can't be appended, and it was asked whether the stream is there.
abbrev pub told_without_rows : List Column → Why → List RowFault → Reply → AppendRowsResponse
told_without_rows columns cause faults (reply.Refused refusal) = refused columns refusal.why []
told_without_rows columns cause faults _ = refused columns cause faults

abbrev pub told_by : List Column → Option Faulty → Reply → AppendRowsResponse
told_by columns None told_reply = told columns told_reply
told_by columns (Some faulty) told_reply = told_without_rows columns faulty.cause faulty.rows told_reply
