-- What a message of an AppendRows call asks: one command of the table of the write stream that its call named last
-- (AppendRowsRequest). A message that can't be read ends its call; any other has one response.
use Rattle.std.specs.Prelude.{ℕ, List, [], Option, Some, None, Result, Ok, Err}
use Rattle.column_types.specs.declared.column.Column.{Column}
use Rattle.resource_names.specs.declared.write_streams.WriteName.{WriteName}
use Rattle.resource_names.specs.Write.{write_name_of}
use Rattle.table_spec.specs.declared.spec.TableSpec.{TableSpec}
use Rattle.table_model.specs.declared.reasons.Why.{Why}
use Rattle.table_model.specs.declared.reasons.Why.TheVariants as why
use Rattle.table_model.specs.declared.streams.StreamRef.{StreamRef}
use Rattle.write_msgs.specs.declared.faults.MsgFault.{MsgFault}
use Rattle.write_msgs.specs.declared.request.AppendRowsRequest.{AppendRowsRequest}
use Rattle.write_msgs.specs.declared.response.AppendRowsResponse.{AppendRowsResponse}
use Rattle.write_msgs.specs.Request.{append_rows_request_of}
use Rattle.write_msgs.specs.ResponseBytes.{append_rows_response_bytes}
use Rattle.call_append.specs.Writer.{Writer, no_writer, last_writer, rows_named}
use Rattle.call_append.specs.Asking.{Asked, asked_by}
use Rattle.call_append.specs.Response.{refused, told_by}
use Rattle.open_tables.specs.Plans.{Plan, Fixed, At, TurnFor, on_command}
use Rattle.conn_requests.specs.declared.answers.Answer.{Answer}
use Rattle.conn_requests.specs.declared.answers.Answer.TheVariants as answer
use Rattle.conn_requests.specs.Names.{Named}
use Rattle.call_plans.specs.Endings.{unreadable}
use Rattle.call_plans.specs.Names.{on_table, ref_of}

-- ---- the response

-- it carries the write stream that the message itself names, as the message spells it
abbrev pub echoing : AppendRowsRequest → AppendRowsResponse → AppendRowsResponse
echoing request response = record response { write_stream = request.write_stream }

abbrev pub response_to : AppendRowsRequest → AppendRowsResponse → Answer
response_to request response = answer.Goes (append_rows_response_bytes (echoing request response))

-- refused before there is a table
abbrev pub refused_to : AppendRowsRequest → Why → Answer
refused_to request cause = response_to request (refused [] cause [])

-- ---- the turn

abbrev pub turn_of : List Column → AppendRowsRequest → Asked → TurnFor Answer
turn_of columns request asked = on_command columns asked.command (λ reply. response_to request (told_by columns asked.faulty reply))

-- the writer schema that the call named last
abbrev pub writer_named : List Column → Named → Writer
writer_named columns named = last_writer columns no_writer named.schema

abbrev pub append_turn : StreamRef → Named → AppendRowsRequest → List Column → TurnFor Answer
append_turn stream named request columns = turn_of columns request (asked_by stream (writer_named columns named) request.offset (rows_named request))

-- ---- the message

abbrev pub append_on : List TableSpec → Named → AppendRowsRequest → Option WriteName → Plan Answer
append_on specs named request None = Fixed (refused_to request why.BadName)
append_on specs named request (Some name) =
    on_table specs (refused_to request why.NoTable) name.table (λ place spec. At place (append_turn (ref_of name.stream) named request spec.schema))

abbrev pub append_by : List TableSpec → Named → Result AppendRowsRequest MsgFault → Plan Answer
append_by specs named (Err broken) = Fixed (unreadable broken)
append_by specs named (Ok request) = append_on specs named request (write_name_of named.stream)

-- a message, with what its call has named, the message included
unfoldable pub append_plan : List TableSpec → Named → (message : List ℕ) → Plan Answer
append_plan specs named message = append_by specs named (append_rows_request_of message)
