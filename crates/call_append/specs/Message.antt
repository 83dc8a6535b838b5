-- What a message of an AppendRows call does to a table, and what it is answered.
use Rattle.std.specs.Prelude.{◌≡◌, ℕ, ℤ, List, Option, Result, Ok, Err}
use Rattle.table_model.specs.declared.replies.Answer.{Answer}
use Rattle.table_model.specs.Table.{Table, answer_at, reply_of, history_after}
use Rattle.write_msgs.specs.declared.request.AppendRowsRequest.{AppendRowsRequest}
use Rattle.write_msgs.specs.declared.response.AppendRowsResponse.{AppendRowsResponse}
use Rattle.call_append.specs.declared.appends.Asker.{Asker}
use Rattle.call_append.specs.declared.appends.NoResponse.{NoResponse}
use Rattle.call_append.specs.declared.appends.NoResponse.TheVariants as none
use Rattle.call_append.specs.Writer.{Writer, schema_named, rows_named, last_writer}
use Rattle.call_append.specs.Asking.{Asked, asked_by}
use Rattle.call_append.specs.Response.{told_by}

-- the response, and the table behind it
pub record Outcome : Type 0 where
  pub response : AppendRowsResponse
  pub table : Table

-- a table answers what was asked of it
abbrev pub answered : Table → Asked → Answer → Outcome
answered table asked answer = record {
  response = told_by table.columns asked.faulty (reply_of answer);
  table = record table { entries = history_after table.entries answer };
}

abbrev pub on_asked : Asker → Table → Asked → Outcome
on_asked asker table asked = answered table asked (answer_at table asker.caller asked.command asker.now)

abbrev pub on_writer : Asker → Table → Writer → Option ℤ → List (List ℕ) → Outcome
on_writer asker table writer offset rows = on_asked asker table (asked_by asker.stream writer offset rows)

-- the writer schema that counts with a message
abbrev pub writer_with : Table → Writer → AppendRowsRequest → Writer
writer_with table before request = last_writer table.columns before (schema_named request)

-- the outcome of a message
abbrev pub outcome : Asker → Table → Writer → AppendRowsRequest → Outcome
outcome asker table before request = on_writer asker table (writer_with table before request) request.offset (rows_named request)

-- The response is given, and the table is as behind it. At want of memory nothing was done, or the response is lost.
abbrev pub Responds : Table → Table → Outcome → Result AppendRowsResponse NoResponse → Type 0
Responds old new due (Ok response) = (response ≡ due.response) × (new ≡ due.table)
Responds old new due (Err none.Undone) = new ≡ old
Responds old new due (Err none.Lost) = new ≡ due.table
