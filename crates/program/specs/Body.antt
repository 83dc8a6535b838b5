-- The command that answers one AppendRows body over a table of opaque rows.
use Rattle.std.specs.Prelude.{◌≡◌, ℕ, ◌+◌, Bool, List, [], Option, None, Some, is_some, IfSome}
use Rattle.outside.specs.Faults.{Rose}
use Rattle.table_model.specs.declared.opaque_rows.OpaqueEntry.{OpaqueEntry}
use Rattle.call_body.specs.declared.limits.TheConstants.{BODY_LIMIT}
use Rattle.call_body.specs.declared.ends.BodyEnd.{BodyEnd}
use Rattle.call_body.specs.declared.ends.BodyEnd.TheVariants as ends
use Rattle.program.specs.declared.requests.Request.{Request}
use Rattle.program.specs.Outside.{StandardStreams}
use Rattle.program.specs.Request.{request_of}
use Rattle.program.specs.Reply.{reply_at, history_behind}
use Rattle.table_spec.specs.declared.spec.TableSpec.{TableSpec}
use Rattle.program.specs.Typed.{is_decodable, AnswersFromTyped, fresh}
use Rattle.call_body.specs.Ends.{EndsAs, Writes, ReadsAll, TakesAtMost, HasCause, IsGoodBody, IsDoneOrMemory}

-- a message that can be read
abbrev pub is_readable : List ℕ → Bool
is_readable message = is_some (request_of message)

-- the table's answer to a message: its reply at the history, and the history behind it
abbrev pub AnswersFromTable : List OpaqueEntry → List ℕ → List ℕ → List OpaqueEntry → Type 0
AnswersFromTable history message reply next =
    (request : Request) × (request_of message ≡ Some request) × (reply ≡ reply_at history request) × (next ≡ history_behind history request)

-- One run over a source and a sink, of what answers messages so from a state on: what was written is the framed replies,
-- in order, to the messages read, each answered at what the messages before it left; after a fault or want of memory it is
-- the first bytes of these.
pub record BodyRan {S : Type 0} (readable : List ℕ → Bool) (answers : S → List ℕ → List ℕ → S → Type 0) (start : S) (old new : StandardStreams) (end : BodyEnd) : Type 0 where
  pub ending : (replied : List ℕ) × Writes old.taken new.taken replied end
      × IfSome old.left (λ bytes. (last : S) × EndsAs readable answers bytes replied start last end)
  pub cause : HasCause old.source_faults new.source_faults old.sink_faults new.sink_faults end
  pub read : ReadsAll old.left new.left end
  pub takes : TakesAtMost (BODY_LIMIT + 1) old.left new.left
  pub complete : IfSome old.left (λ bytes. IsGoodBody readable bytes → (Rose old.source_faults new.source_faults → ⊥) → (Rose old.sink_faults new.sink_faults → ⊥) → IsDoneOrMemory end)

-- Without a table the rows are opaque bytes in one stream, and with one they are typed.
abbrev pub RanOver : Option TableSpec → (old new : StandardStreams) → BodyEnd → Type 0
RanOver None old new end = BodyRan is_readable AnswersFromTable [] old new end
RanOver (Some spec) old new end = BodyRan is_decodable AnswersFromTyped (fresh spec.schema) old new end

-- the status of the program
abbrev pub status_of : BodyEnd → ℕ
status_of ends.Done = 0
status_of ends.Outside = 3
status_of ends.Memory = 4
status_of ends.Refused = 5
status_of ends.Cut = 6
status_of ends.Long = 7
