-- What a FinalizeWriteStream call asks: that a write stream take no more rows. The refusals come in this order: BadName,
-- NoTable, and the table's.
use Rattle.std.specs.Prelude.{ℕ, List, Option, Some, None, Result, Ok, Err}
use Rattle.std.specs.Int.{w64, cast_signed}
use Rattle.column_types.specs.declared.column.Column.{Column}
use Rattle.resource_names.specs.declared.write_streams.StreamId.{StreamId}
use Rattle.resource_names.specs.declared.write_streams.WriteName.{WriteName}
use Rattle.resource_names.specs.Write.{write_name_of}
use Rattle.table_spec.specs.declared.spec.TableSpec.{TableSpec}
use Rattle.table_model.specs.declared.commands.Command.TheVariants as command
use Rattle.table_model.specs.declared.reasons.Why.TheVariants as why
use Rattle.table_model.specs.declared.replies.Reply.{Reply}
use Rattle.table_model.specs.declared.replies.Reply.TheVariants as reply
use Rattle.write_msgs.specs.declared.faults.MsgFault.{MsgFault}
use Rattle.write_msgs.specs.declared.stream_calls.FinalizeWriteStreamRequest.{FinalizeWriteStreamRequest}
use Rattle.write_msgs.specs.Streams.{finalize_write_stream_request_of}
use Rattle.write_msgs.specs.StreamsBytes.{finalize_write_stream_response_bytes}
use Rattle.open_tables.specs.Plans.{Plan, Fixed, At, TurnFor, on_command}
use Rattle.conn_requests.specs.declared.answers.Answer.{Answer}
use Rattle.call_plans.specs.Endings.{responded, refusal_answer, refused_for, unreadable, untold}
use Rattle.call_plans.specs.Names.{on_table, ref_of}

-- the number of its rows
abbrev pub told_finalised : Reply → Answer
told_finalised (reply.Finalised rows) = responded (finalize_write_stream_response_bytes (record { row_count = cast_signed w64 rows }))
told_finalised (reply.Refused refusal) = refusal_answer refusal
told_finalised _ = untold

abbrev pub finalise_turn : StreamId → List Column → TurnFor Answer
finalise_turn id columns = on_command columns (command.Finalise (ref_of id)) told_finalised

abbrev pub finalise_on : List TableSpec → Option WriteName → Plan Answer
finalise_on specs None = Fixed (refused_for why.BadName)
finalise_on specs (Some name) = on_table specs (refused_for why.NoTable) name.table (λ place spec. At place (finalise_turn name.stream spec.schema))

abbrev pub finalise_by : List TableSpec → Result FinalizeWriteStreamRequest MsgFault → Plan Answer
finalise_by specs (Err broken) = Fixed (unreadable broken)
finalise_by specs (Ok request) = finalise_on specs (write_name_of request.name)

unfoldable pub finalise_plan : List TableSpec → (message : List ℕ) → Plan Answer
finalise_plan specs message = finalise_by specs (finalize_write_stream_request_of message)
