-- What the items of a body come to (gRPC over HTTP/2, Responses): the responses, and the status behind them.
use Rattle.std.specs.Prelude.{ℕ, List, [], ◌∷◌, Ok, Err, codes}
use Rattle.table_model.specs.declared.reasons.Why.{Why}
use Rattle.table_model.specs.declared.reasons.Why.TheVariants as why
use Rattle.table_model.specs.Reasons.{refusal_of}
use Rattle.call_append.specs.Texts.{cause_text}
use Rattle.grpc_meta.specs.declared.answers.Status.{Status}
use Rattle.conn_requests.specs.declared.answers.Answer.{Answer}
use Rattle.conn_requests.specs.declared.answers.Answer.TheVariants as answer
use Rattle.rows_body.specs.declared.body.RowsEnd.{RowsEnd}
use Rattle.rows_body.specs.declared.body.RowsEnd.TheVariants as rows_end
use Rattle.rows_body.specs.Rows.{Item}
use Rattle.call_read.specs.declared.bodies.RowsAnswer.{RowsAnswer}
use Rattle.call_read.specs.declared.bodies.RowsAnswer.TheVariants as rows_answer

abbrev pub status_for : Why → Status
status_for cause = record { code = (refusal_of cause).code; text = cause_text (refusal_of cause).why }

-- OUT_OF_RANGE 11, UNAVAILABLE 14
abbrev pub end_status : RowsEnd → Status
end_status (rows_end.PastEnd matched) = status_for why.PastEnd
end_status rows_end.Memory = record { code = 14; text = codes "out of memory" }

-- the responses before an error
unfoldable pub messages_of : List Item → List (List ℕ)
messages_of [] = []
messages_of (Ok message ∷ items) = message ∷ messages_of items
messages_of (Err end ∷ items) = []

-- the status of the error, or 0
unfoldable pub status_of : List Item → Status
status_of [] = record { code = 0; text = [] }
status_of (Ok message ∷ items) = status_of items
status_of (Err end ∷ items) = end_status end

abbrev pub told_items : List Item → Answer
told_items items = answer.Ends (messages_of items) (status_of items)

abbrev pub told : RowsAnswer → Answer
told (rows_answer.Body body) = told_items body.left
told (rows_answer.End end) = end
