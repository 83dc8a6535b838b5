-- A body over a table of typed rows, which has one write stream.
use Rattle.std.specs.Prelude.{◌≡◌, ℕ, ℤ, pos, Bool, List, [], Result, Ok, Err, is_ok}
use Rattle.column_types.specs.declared.column.Column.{Column}
use Rattle.table_model.specs.declared.commands.Command.TheVariants as command
use Rattle.table_model.specs.declared.streams.StreamKind.TheVariants as kind
use Rattle.table_model.specs.declared.streams.StreamRef.TheVariants as stream
use Rattle.table_model.specs.Table.{Table, answer_at, history_after}
use Rattle.write_msgs.specs.declared.request.AppendRowsRequest.{AppendRowsRequest}
use Rattle.write_msgs.specs.declared.response.AppendRowsResponse.{AppendRowsResponse}
use Rattle.write_msgs.specs.Request.{append_rows_request_of}
use Rattle.write_msgs.specs.ResponseBytes.{append_rows_response_bytes}
use Rattle.call_append.specs.declared.appends.Asker.{Asker}
use Rattle.call_append.specs.declared.appends.NoResponse.{NoResponse}
use Rattle.call_append.specs.declared.appends.NoResponse.TheVariants as none
use Rattle.call_append.specs.Writer.{Writer, no_writer}
use Rattle.call_append.specs.Message.{Outcome, outcome, writer_with}
use Rattle.program.specs.declared.typed_table.TheConstants.{STREAM}

-- the table of a call, and the writer schema that counts
pub record Call : Type 0 where
  pub table : Table
  pub writer : Writer

-- caller 0 appends to the one write stream, at moment 0
abbrev pub asker : Asker
asker = record { caller = 0; stream = stream.Number STREAM; now = pos 0 }

abbrev pub empty : List Column → Table
empty columns = record { columns = columns; entries = [] }

-- the table in which the one write stream was created, COMMITTED, by caller 0 at moment 0
abbrev pub created : List Column → Table
created columns = record { columns = columns; entries = history_after [] (answer_at (empty columns) 0 (command.Create kind.Committed) (pos 0)) }

-- before the first message
abbrev pub fresh : List Column → Call
fresh columns = record { table = created columns; writer = no_writer }

-- a message that can be read
abbrev pub is_decodable : List ℕ → Bool
is_decodable message = is_ok (append_rows_request_of message)

abbrev pub outcome_in : Call → AppendRowsRequest → Outcome
outcome_in call request = outcome asker call.table call.writer request

abbrev pub call_after : Call → AppendRowsRequest → Call
call_after call request = record { table = (outcome_in call request).table; writer = writer_with call.table call.writer request }

-- the answer to a message: the response at the history, and the call behind it
abbrev pub AnswersFromTyped : Call → List ℕ → List ℕ → Call → Type 0
AnswersFromTyped call message reply next =
    (request : AppendRowsRequest) × (append_rows_request_of message ≡ Ok request)
    × (reply ≡ append_rows_response_bytes (outcome_in call request).response) × (next ≡ call_after call request)

-- a request was answered; at want of memory nothing was done, or the response is lost
abbrev pub Answered : Call → Call → AppendRowsRequest → Result (List ℕ) NoResponse → Type 0
Answered old new request (Ok reply) = (reply ≡ append_rows_response_bytes (outcome_in old request).response) × (new ≡ call_after old request)
Answered old new request (Err none.Undone) = new ≡ old
Answered old new request (Err none.Lost) = new ≡ call_after old request

-- a response as bytes, or it is lost
abbrev pub Encoded : AppendRowsResponse → Result (List ℕ) NoResponse → Type 0
Encoded response (Ok reply) = reply ≡ append_rows_response_bytes response
Encoded response (Err none.Undone) = ⊥
Encoded response (Err none.Lost) = Unit {0}

-- the bytes of a response, or why there is none
abbrev pub Replied : Result AppendRowsResponse NoResponse → Result (List ℕ) NoResponse → Type 0
Replied (Ok response) reply = Encoded response reply
Replied (Err cause) reply = reply ≡ Err cause
