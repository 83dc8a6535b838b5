-- What a SplitReadStream call asks: that a read stream be split in two. The refusals come in this order: BadName, NoRead,
-- and the table's.
use Rattle.std.specs.Prelude.{ℕ, List, Option, Some, None, Result, Ok, Err}
use Rattle.column_types.specs.declared.column.Column.{Column}
use Rattle.resource_names.specs.declared.read_streams.ReadName.{ReadName}
use Rattle.resource_names.specs.declared.read_streams.ReadPlace.{ReadPlace}
use Rattle.resource_names.specs.Read.{read_name_of}
use Rattle.table_spec.specs.declared.spec.TableSpec.{TableSpec}
use Rattle.table_model.specs.declared.commands.Command.TheVariants as command
use Rattle.table_model.specs.declared.reasons.Why.TheVariants as why
use Rattle.table_model.specs.declared.replies.Reply.{Reply}
use Rattle.table_model.specs.declared.replies.Reply.TheVariants as reply
use Rattle.write_msgs.specs.declared.faults.MsgFault.{MsgFault}
use Rattle.read_msgs.specs.declared.streams.SplitReadStreamRequest.{SplitReadStreamRequest}
use Rattle.read_msgs.specs.declared.streams.SplitReadStreamResponse.{SplitReadStreamResponse}
use Rattle.read_msgs.specs.Streams.{split_read_stream_request_of}
use Rattle.read_msgs.specs.StreamsBytes.{split_read_stream_response_bytes}
use Rattle.open_tables.specs.Plans.{Plan, Fixed, At, TurnFor, on_command}
use Rattle.conn_requests.specs.declared.answers.Answer.{Answer}
use Rattle.call_plans.specs.Endings.{responded, refusal_answer, refused_for, unreadable, untold}
use Rattle.call_plans.specs.ReadNames.{on_read, read_stream}

-- the children of a node, which have the project of the request's name
abbrev pub children : (project : List ℕ) → ReadPlace → (left right : ℕ) → SplitReadStreamResponse
children project node left right = record {
  primary_stream = Some (read_stream project node.table node.session left);
  remainder_stream = Some (read_stream project node.table node.session right);
}

abbrev pub no_children : SplitReadStreamResponse
no_children = record { primary_stream = None; remainder_stream = None }

abbrev pub told_split : (project : List ℕ) → ReadPlace → Reply → Answer
told_split project node (reply.Children left right) = responded (split_read_stream_response_bytes (children project node left right))
told_split project node reply.NoSplit = responded (split_read_stream_response_bytes no_children)
told_split project node (reply.Refused refusal) = refusal_answer refusal
told_split project node _ = untold

abbrev pub split_turn : (project : List ℕ) → ReadPlace → List Column → TurnFor Answer
split_turn project node columns = on_command columns (command.Split node.session node.node) (told_split project node)

abbrev pub split_on : List TableSpec → Option ReadName → Plan Answer
split_on specs None = Fixed (refused_for why.BadName)
split_on specs (Some name) = on_read specs (refused_for why.NoRead) name (λ node spec. At node.table (split_turn name.project node spec.schema))

abbrev pub split_by : List TableSpec → Result SplitReadStreamRequest MsgFault → Plan Answer
split_by specs (Err broken) = Fixed (unreadable broken)
split_by specs (Ok request) = split_on specs (read_name_of request.name)

unfoldable pub split_plan : List TableSpec → (message : List ℕ) → Plan Answer
split_plan specs message = split_by specs (split_read_stream_request_of message)
