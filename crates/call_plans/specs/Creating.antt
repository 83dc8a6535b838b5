-- What a CreateWriteStream call asks: that its table make a write stream of a type. The refusals come in this order:
-- BadName, NoTable, BadKind, and the table's.
use Rattle.std.specs.Prelude.{ℕ, List, Option, Some, None, option_and_then, Result, Ok, Err}
use Rattle.column_types.specs.declared.column.Column.{Column}
use Rattle.resource_names.specs.declared.tables.TableName.{TableName}
use Rattle.resource_names.specs.declared.write_streams.StreamId.TheVariants as id
use Rattle.resource_names.specs.Table.{table_name_of}
use Rattle.table_spec.specs.declared.spec.TableSpec.{TableSpec}
use Rattle.table_model.specs.declared.commands.Command.TheVariants as command
use Rattle.table_model.specs.declared.reasons.Why.TheVariants as why
use Rattle.table_model.specs.declared.replies.Reply.{Reply}
use Rattle.table_model.specs.declared.replies.Reply.TheVariants as reply
use Rattle.table_model.specs.declared.streams.StreamKind.{StreamKind}
use Rattle.write_msgs.specs.declared.faults.MsgFault.{MsgFault}
use Rattle.schema_msgs.specs.declared.write_streams.CreateWriteStreamRequest.{CreateWriteStreamRequest}
use Rattle.schema_msgs.specs.Stream.{create_write_stream_request_of}
use Rattle.schema_msgs.specs.StreamBytes.{write_stream_bytes}
use Rattle.open_tables.specs.Plans.{Plan, Fixed, At, on_command}
use Rattle.conn_requests.specs.declared.answers.Answer.{Answer}
use Rattle.call_plans.specs.Endings.{responded, refusal_answer, refused_for, unreadable, untold}
use Rattle.call_plans.specs.Names.{on_table}
use Rattle.call_plans.specs.Columns.{schema_of}
use Rattle.call_plans.specs.Described.{described, kind_coded}

-- a new stream, created at this moment
abbrev pub told_created : TableName → List Column → StreamKind → Reply → Answer
told_created table columns kind (reply.Created number moment) =
    responded (write_stream_bytes (described table (id.Number number) kind (Some moment) None (Some (schema_of columns))))
told_created table columns kind (reply.Refused refusal) = refusal_answer refusal
told_created table columns kind _ = untold

abbrev pub create_of : TableName → (place : ℕ) → TableSpec → Option StreamKind → Plan Answer
create_of table place spec None = Fixed (refused_for why.BadKind)
create_of table place spec (Some kind) = At place (on_command spec.schema (command.Create kind) (told_created table spec.schema kind))

-- the type that is asked for; a request without a write stream asks for none
abbrev pub kind_in : CreateWriteStreamRequest → Option StreamKind
kind_in request = option_and_then (λ stream. kind_coded stream.stream_type) request.write_stream

abbrev pub create_on : List TableSpec → CreateWriteStreamRequest → Option TableName → Plan Answer
create_on specs request None = Fixed (refused_for why.BadName)
create_on specs request (Some table) = on_table specs (refused_for why.NoTable) table (λ place spec. create_of table place spec (kind_in request))

abbrev pub create_by : List TableSpec → Result CreateWriteStreamRequest MsgFault → Plan Answer
create_by specs (Err broken) = Fixed (unreadable broken)
create_by specs (Ok request) = create_on specs request (table_name_of request.parent)

unfoldable pub create_plan : List TableSpec → (message : List ℕ) → Plan Answer
create_plan specs message = create_by specs (create_write_stream_request_of message)
