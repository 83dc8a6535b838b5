-- The answer to one message, the ending of a body, and the word `body`.
use Rattle.std.proofs.Common.{◌≡◌, ◌⊎◌, inl, inr, ℕ, ◌<◌, Bool, true, IsTrue, List, [], ◌∷◌, length, get_or, map, None, Some, Ok, Err, IfSome, refl, sym, ap, subst, ◌∙◌, arith}
use Rattle.std.specs.Prelude.{Option, Result, is_some, String, string_bytes, ◌↔◌}
use Rattle.std.specs.declared.alloc.Global.{Global}
use Rattle.table_model.specs.declared.opaque_rows.OpaqueEntry.{OpaqueEntry}
use Rattle.table_model.specs.declared.opaque_rows.AppendFault.{AppendFault}
use Rattle.table_model.specs.declared.opaque_rows.AppendFault.TheVariants as fault
use Rattle.table_model.specs.declared.reasons.Refusal.{Refusal}
use Rattle.table_model.specs.Opaque.{answer_of, history_after, Appended}
use Rattle.call_body.specs.declared.ends.BodyEnd.{BodyEnd}
use Rattle.call_body.specs.Ends.{EndsAs}
use Rattle.call_body.specs.Answers.{AnswersOne}
use Rattle.call_body.specs.declared.answering.Answer.{Answer}
use Rattle.call_body.specs.declared.answering.Answer.TheVariants as answer
use Rattle.program.specs.declared.requests.Request.{Request}
use Rattle.program.specs.Request.{request_of}
use Rattle.program.specs.Reply.{accepted_bytes, refused_bytes, reply_of, AnswersAppend}
use Rattle.program.specs.Body.{is_readable, AnswersFromTable}

readable : (message : List ℕ) (request : Request) → request_of message ≡ Some request → IsTrue (is_readable message)
readable message request is = ap is_some is

-- an accepted append answers its message
accepted : (old new : List OpaqueEntry) (message reply : List ℕ) (request : Request) (entry : OpaqueEntry) → request_of message ≡ Some request
    → answer_of old request.offset request.rows ≡ Ok entry → reply ≡ accepted_bytes entry.offset → new ≡ history_after old (Ok entry) → AnswersFromTable old message reply new
accepted old new message reply request entry is answered written grown =
    (request, is, written ∙ ap reply_of (sym answered), grown ∙ ap (history_after old) (sym answered))

-- so does a refused one
refused : (old new : List OpaqueEntry) (message reply : List ℕ) (request : Request) (refusal : Refusal) → request_of message ≡ Some request
    → answer_of old request.offset request.rows ≡ Err refusal → reply ≡ refused_bytes refusal → new ≡ old → AnswersFromTable old message reply new
refused old new message reply request refusal is answered written same =
    (request, is, written ∙ ap reply_of (sym answered), same ∙ ap (history_after old) (sym answered))

pub AnswersOne-append : (old new : List OpaqueEntry) (message : List ℕ) (request : Request) (appended : Result ℕ AppendFault) (given : Answer)
    → request_of message ≡ Some request → Appended old new request.offset request.rows appended → AnswersAppend appended given
    → AnswersOne is_readable AnswersFromTable old new message given
AnswersOne-append old new message request (Ok first) (answer.Reply reply) is append with =
    (readable message request is, accepted old new message reply request (record { offset = first; rows = request.rows }) is append.0 with.0 append.1, with.1)
AnswersOne-append old new message request (Ok first) answer.Memory is append with =
    inr (
      accepted_bytes first,
      readable message request is,
      accepted old new message (accepted_bytes first) request (record { offset = first; rows = request.rows }) is append.0 refl append.1,
    )
AnswersOne-append old new message request (Ok first) answer.Unreadable is append with = absurd with
AnswersOne-append old new message request (Err (fault.Refused refusal)) (answer.Reply reply) is append with =
    (readable message request is, refused old new message reply request refusal is append.0 with.0 append.1, with.1)
AnswersOne-append old new message request (Err (fault.Refused refusal)) answer.Memory is append with = inl append.1
AnswersOne-append old new message request (Err (fault.Refused refusal)) answer.Unreadable is append with = absurd with
AnswersOne-append old new message request (Err fault.Memory) (answer.Reply reply) is append with = absurd with
AnswersOne-append old new message request (Err fault.Memory) answer.Memory is append with = inl append
AnswersOne-append old new message request (Err fault.Memory) answer.Unreadable is append with = absurd with

-- the same where the append is seen through the fields of the table
pub AnswersOne-given : (inside old new : List OpaqueEntry) (message : List ℕ) (request : Request) (rows : List (List ℕ)) (appended : Result ℕ AppendFault) (given : Answer)
    → inside ≡ old → rows ≡ request.rows → request_of message ≡ Some request → Appended inside new request.offset rows appended → AnswersAppend appended given
    → AnswersOne is_readable AnswersFromTable old new message given
AnswersOne-given inside old new message request rows appended given same moved is append with =
    let P : List OpaqueEntry → Type 0 = λ h. Appended h new request.offset rows appended in
    let Q : List (List ℕ) → Type 0 = λ r. Appended old new request.offset r appended in
    AnswersOne-append old new message request appended given is (subst Q moved (subst P same append)) with

-- some state stands at the end
pub with_last : {S : Type 0} (readable : List ℕ → Bool) (answers : S → List ℕ → List ℕ → S → Type 0) (left0 : Option (List ℕ)) (replied : List ℕ) (start last : S) (end : BodyEnd)
    → IfSome left0 (λ bytes. EndsAs readable answers bytes replied start last end)
    → IfSome left0 (λ bytes. (some : S) × EndsAs readable answers bytes replied start some end)
with_last readable answers None replied start last end holds = tt
with_last readable answers (Some bytes) replied start last end holds = (last, holds)
