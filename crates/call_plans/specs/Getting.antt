-- What a GetWriteStream call asks: what a write stream is. The refusals come in this order: BadName, NoTable, and the
-- table's.
use Rattle.std.specs.Prelude.{ℕ, ℤ, pos, negsuc, Bool, false, ◌==◌, List, Option, Some, None, Result, Ok, Err, if◌then◌else◌}
use Rattle.column_types.specs.declared.column.Column.{Column}
use Rattle.resource_names.specs.declared.write_streams.WriteName.{WriteName}
use Rattle.resource_names.specs.Write.{write_name_of}
use Rattle.table_spec.specs.declared.spec.TableSpec.{TableSpec}
use Rattle.table_model.specs.declared.commands.Command.TheVariants as command
use Rattle.table_model.specs.declared.reasons.Why.TheVariants as why
use Rattle.table_model.specs.declared.replies.Reply.{Reply}
use Rattle.table_model.specs.declared.replies.Reply.TheVariants as reply
use Rattle.write_msgs.specs.declared.faults.MsgFault.{MsgFault}
use Rattle.write_msgs.specs.declared.stream_calls.GetWriteStreamRequest.{GetWriteStreamRequest}
use Rattle.write_msgs.specs.Streams.{get_write_stream_request_of}
use Rattle.schema_msgs.specs.declared.schemas.TableSchema.{TableSchema}
use Rattle.schema_msgs.specs.StreamBytes.{write_stream_bytes}
use Rattle.open_tables.specs.Plans.{Plan, Fixed, At, TurnFor, on_command}
use Rattle.conn_requests.specs.declared.answers.Answer.{Answer}
use Rattle.call_plans.specs.Endings.{responded, refusal_answer, refused_for, unreadable, untold}
use Rattle.call_plans.specs.Names.{on_table, ref_of}
use Rattle.call_plans.specs.Columns.{schema_of}
use Rattle.call_plans.specs.Described.{described}

-- the view FULL; any other is BASIC (WriteStreamView)
abbrev pub is_full : (view : ℤ) → Bool
is_full (pos code) = code == 2
is_full (negsuc below) = false

-- the full view has the table's schema
abbrev pub schema_in : (view : ℤ) → List Column → Option TableSchema
schema_in view columns = if is_full view then Some (schema_of columns) else None

abbrev pub told_found : WriteName → (view : ℤ) → List Column → Reply → Answer
told_found name view columns (reply.Stream kind created committed) =
    responded (write_stream_bytes (described name.table name.stream kind created committed (schema_in view columns)))
told_found name view columns (reply.Refused refusal) = refusal_answer refusal
told_found name view columns _ = untold

abbrev pub get_turn : WriteName → (view : ℤ) → List Column → TurnFor Answer
get_turn name view columns = on_command columns (command.Get (ref_of name.stream)) (told_found name view columns)

abbrev pub get_on : List TableSpec → GetWriteStreamRequest → Option WriteName → Plan Answer
get_on specs request None = Fixed (refused_for why.BadName)
get_on specs request (Some name) = on_table specs (refused_for why.NoTable) name.table (λ place spec. At place (get_turn name request.view spec.schema))

abbrev pub get_by : List TableSpec → Result GetWriteStreamRequest MsgFault → Plan Answer
get_by specs (Err broken) = Fixed (unreadable broken)
get_by specs (Ok request) = get_on specs request (write_name_of request.name)

unfoldable pub get_plan : List TableSpec → (message : List ℕ) → Plan Answer
get_plan specs message = get_by specs (get_write_stream_request_of message)
