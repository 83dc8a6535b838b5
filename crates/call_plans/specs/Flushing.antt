-- What a FlushRows call asks: that the rows of a BUFFERED write stream be visible up to an offset. The refusals come in
-- this order: BadName, NoTable, and the table's.
use Rattle.std.specs.Prelude.{ℕ, ℤ, List, Option, Some, None, Result, Ok, Err}
use Rattle.std.specs.Int.{w64, cast_signed}
use Rattle.column_types.specs.declared.column.Column.{Column}
use Rattle.resource_names.specs.declared.write_streams.StreamId.{StreamId}
use Rattle.resource_names.specs.declared.write_streams.WriteName.{WriteName}
use Rattle.resource_names.specs.Write.{write_name_of}
use Rattle.table_spec.specs.declared.spec.TableSpec.{TableSpec}
use Rattle.table_model.specs.declared.commands.Command.TheVariants as command
use Rattle.table_model.specs.declared.reasons.Why.TheVariants as why
use Rattle.table_model.specs.declared.replies.Reply.{Reply}
use Rattle.table_model.specs.declared.replies.Reply.TheVariants as reply
use Rattle.write_msgs.specs.declared.faults.MsgFault.{MsgFault}
use Rattle.write_msgs.specs.declared.stream_calls.FlushRowsRequest.{FlushRowsRequest}
use Rattle.write_msgs.specs.Streams.{flush_rows_request_of}
use Rattle.write_msgs.specs.StreamsBytes.{flush_rows_response_bytes}
use Rattle.open_tables.specs.Plans.{Plan, Fixed, At, TurnFor, on_command}
use Rattle.conn_requests.specs.declared.answers.Answer.{Answer}
use Rattle.call_plans.specs.Endings.{responded, refusal_answer, refused_for, unreadable, untold}
use Rattle.call_plans.specs.Names.{on_table, ref_of}

-- the offset of the last visible row
abbrev pub told_flushed : Reply → Answer
told_flushed (reply.Flushed offset) = responded (flush_rows_response_bytes (record { offset = cast_signed w64 offset }))
told_flushed (reply.Refused refusal) = refusal_answer refusal
told_flushed _ = untold

abbrev pub flush_turn : StreamId → (offset : Option ℤ) → List Column → TurnFor Answer
flush_turn id offset columns = on_command columns (command.Flush (ref_of id) offset) told_flushed

abbrev pub flush_on : List TableSpec → FlushRowsRequest → Option WriteName → Plan Answer
flush_on specs request None = Fixed (refused_for why.BadName)
flush_on specs request (Some name) = on_table specs (refused_for why.NoTable) name.table (λ place spec. At place (flush_turn name.stream request.offset spec.schema))

abbrev pub flush_by : List TableSpec → Result FlushRowsRequest MsgFault → Plan Answer
flush_by specs (Err broken) = Fixed (unreadable broken)
flush_by specs (Ok request) = flush_on specs request (write_name_of request.write_stream)

unfoldable pub flush_plan : List TableSpec → (message : List ℕ) → Plan Answer
flush_plan specs message = flush_by specs (flush_rows_request_of message)
