-- The answer to a message over a table of typed rows.
use Rattle.std.proofs.Common.{◌≡◌, ◌⊎◌, inl, inr, ℕ, ◌≤◌, ◌<◌, ◌^◌, IsTrue, List, length, sum_by, Option, Some, None, Result, Ok, Err, IfOk, IfSome, refl, sym, ap, subst, ◌∙◌, arith}
use Rattle.std.specs.Prelude.{is_ok}
use Rattle.call_body.specs.Answers.{AnswersOne}
use Rattle.call_body.specs.declared.answering.Answer.TheVariants as answer
use Rattle.write_msgs.specs.declared.faults.MsgFault.{MsgFault}
use Rattle.write_msgs.specs.declared.request.AppendRowsRequest.{AppendRowsRequest}
use Rattle.write_msgs.specs.declared.response.AppendRowsResponse.{AppendRowsResponse}
use Rattle.write_msgs.specs.Request.{append_rows_request_of}
use Rattle.write_msgs.specs.ResponseBytes.{append_rows_response_bytes}
use Rattle.call_append.specs.declared.appends.NoResponse.{NoResponse}
use Rattle.call_append.specs.declared.appends.NoResponse.TheVariants as none
use Rattle.table_model.specs.Table.{Table}
use Rattle.call_append.specs.Message.{Responds, on_writer, writer_with}
use Rattle.call_append.specs.Writer.{Writer, last_writer, rows_named, schema_named}
use Rattle.call_append.specs.Sizes.{IsRowsWithin, IsWithin}
use Rattle.call_append.proofs.RequestSizes.{request_fits}
use Rattle.program.specs.Typed.{Call, asker, is_decodable, outcome_in, call_after, AnswersFromTyped, Answered, Replied}

-- a smaller message fits a larger size
larger : (small large : ℕ) (request : AppendRowsRequest) → small ≤ large → IsWithin small request → IsWithin large request
larger small large request le is =
    record { rows = record { few = omega (arith, le, is.rows.few); small = omega (arith, le, is.rows.small) }; schema = wider (schema_named request) is.schema }
  where
    wider : (o : Option (List ℕ)) → IfSome o (λ d. length d ≤ small) → IfSome o (λ d. length d ≤ large)
    wider (Some d) h = omega (arith, le, h)
    wider None h = tt

pub request_is_small : (message : List ℕ) (request : AppendRowsRequest) → length message < 2 ^ 32 → append_rows_request_of message ≡ Ok request → IsWithin 4294967295 request
request_is_small message request short is =
    larger (length message) 4294967295 request (omega (arith, short)) (subst (λ (r : Result AppendRowsRequest MsgFault). IfOk r (IsWithin (length message))) is (request_fits message))

decodable : (message : List ℕ) (request : AppendRowsRequest) → append_rows_request_of message ≡ Ok request → IsTrue (is_decodable message)
decodable message request is = ap is_ok is

pub answered_reply : (old new : Call) (message : List ℕ) (request : AppendRowsRequest) (reply : List ℕ) → append_rows_request_of message ≡ Ok request → length reply < 2 ^ 32
    → Answered old new request (Ok reply) → AnswersOne is_decodable AnswersFromTyped old new message (answer.Reply reply)
answered_reply old new message request reply is short h = (decodable message request is, (request, is, h.0, h.1), short)

pub answered_none : (old new : Call) (message : List ℕ) (request : AppendRowsRequest) (cause : NoResponse) → append_rows_request_of message ≡ Ok request
    → Answered old new request (Err cause) → AnswersOne is_decodable AnswersFromTyped old new message answer.Memory
answered_none old new message request none.Undone is h = inl h
answered_none old new message request none.Lost is h =
    inr (append_rows_response_bytes (outcome_in old request).response, decodable message request is, (request, is, refl, h))

abbrev call_of : Table → Writer → Call
call_of table writer = record { table = table; writer = writer }

table_after : (old : Call) (table : Table) (request : AppendRowsRequest) → writer_with old.table old.writer request ≡ old.writer
    → table ≡ (outcome_in old request).table → call_of table old.writer ≡ call_after old request
table_after old table request same is =
    ap (λ (t : Table). call_of t old.writer) is ∙ ap (λ (w : Writer). call_of (outcome_in old request).table w) (sym same)

same_writer : (old : Call) (table : Table) (request : AppendRowsRequest) (told : Result AppendRowsResponse NoResponse) (reply : Result (List ℕ) NoResponse)
    → writer_with old.table old.writer request ≡ old.writer → Responds old.table table (outcome_in old request) told → Replied told reply
    → Answered old (call_of table old.writer) request reply
same_writer old table request (Ok response) (Ok bytes) same h is = (is ∙ ap append_rows_response_bytes h.0, table_after old table request same h.1)
same_writer old table request (Ok response) (Err none.Undone) same h is = absurd is
same_writer old table request (Ok response) (Err none.Lost) same h is = table_after old table request same h.1
same_writer old table request (Err none.Undone) reply same h is =
    subst (Answered old (call_of table old.writer) request) (sym is) (ap (λ (t : Table). call_of t old.writer) h)
same_writer old table request (Err none.Lost) reply same h is =
    subst (Answered old (call_of table old.writer) request) (sym is) (table_after old table request same h)

-- a request that names no writer schema is answered by the one that counts
pub replied_as_before : (before table : Table) (writer : Writer) (old : Call) (request : AppendRowsRequest) (rows : List (List ℕ))
    (told : Result AppendRowsResponse NoResponse) (reply : Result (List ℕ) NoResponse)
    → call_of before writer ≡ old → rows ≡ rows_named request → schema_named request ≡ None
    → Responds before table (on_writer asker before writer request.offset rows) told → Replied told reply
    → Answered old (call_of table writer) request reply
replied_as_before before table writer old request rows told reply is named unnamed h replied =
    subst (λ (o : Call). Answered o (call_of table writer) request reply) is (same_writer (call_of before writer) table request told reply same due replied)
  where
    same : writer_with before writer request ≡ writer
    same = ap (last_writer before.columns writer) unnamed

    by_rows : Responds before table (on_writer asker before writer request.offset (rows_named request)) told
    by_rows = subst (λ (r : List (List ℕ)). Responds before table (on_writer asker before writer request.offset r) told) named h

    due : Responds before table (outcome_in (call_of before writer) request) told
    due = subst (λ (w : Writer). Responds before table (on_writer asker before w request.offset (rows_named request)) told) (sym same) by_rows

pub reply_is_small : (told : Result AppendRowsResponse NoResponse) (reply : Result (List ℕ) NoResponse)
    → IfOk told (λ response. length (append_rows_response_bytes response) < 2 ^ 32) → Replied told reply → IfOk reply (λ bytes. length bytes < 2 ^ 32)
reply_is_small (Ok response) (Ok bytes) short is = subst (λ (b : List ℕ). length b < 2 ^ 32) (sym is) short
reply_is_small (Ok response) (Err cause) short is = tt
reply_is_small (Err cause) reply short is = subst (λ (r : Result (List ℕ) NoResponse). IfOk r (λ bytes. length bytes < 2 ^ 32)) (sym is) tt
