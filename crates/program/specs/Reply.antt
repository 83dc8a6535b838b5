-- The AppendRowsResponse to an append of opaque rows.
use Rattle.std.specs.Prelude.{◌≡◌, ℕ, ◌<◌, ◌^◌, length, List, [], ◌∷◌, Result, Ok, Err, ◌==◌, if◌then◌else◌}
use Rattle.proto_fields.specs.Record.{Record, Payload, Varint, Len}
use Rattle.proto_fields.specs.Message.{message_of}
use Rattle.table_model.specs.declared.reasons.Refusal.{Refusal}
use Rattle.table_model.specs.declared.opaque_rows.OpaqueEntry.{OpaqueEntry}
use Rattle.table_model.specs.declared.opaque_rows.AppendFault.{AppendFault}
use Rattle.table_model.specs.declared.opaque_rows.AppendFault.TheVariants as fault
use Rattle.call_body.specs.declared.answering.Answer.{Answer}
use Rattle.call_body.specs.declared.answering.Answer.TheVariants as answer
use Rattle.table_model.specs.Reasons.{phrase_of}
use Rattle.table_model.specs.Opaque.{answer_of, history_after}
use Rattle.program.specs.declared.messages.TheConstants.{APPEND_RESULT, ERROR, RESULT_OFFSET, VALUE, CODE, MESSAGE}
use Rattle.program.specs.declared.requests.Request.{Request}

abbrev pub field_of : ℕ → Payload → Record
field_of number payload = record { number = number; payload = payload }

-- a number that is 0 is not written
abbrev pub varint_fields : ℕ → ℕ → List Record
varint_fields number n = if n == 0 then [] else field_of number (Varint n) ∷ []

-- an Int64Value
abbrev pub wrapped_bytes : ℕ → List ℕ
wrapped_bytes n = message_of (varint_fields VALUE n)

-- an AppendResult, with the offset of the first row
abbrev pub result_bytes : ℕ → List ℕ
result_bytes offset = message_of (field_of RESULT_OFFSET (Len (wrapped_bytes offset)) ∷ [])

-- a Status
abbrev pub status_bytes : Refusal → List ℕ
status_bytes refusal = message_of (field_of CODE (Varint refusal.code) ∷ field_of MESSAGE (Len (phrase_of refusal.why)) ∷ [])

-- the response to an accepted append, with the offset of its first row
unfoldable pub accepted_bytes : ℕ → List ℕ
accepted_bytes offset = message_of (field_of APPEND_RESULT (Len (result_bytes offset)) ∷ [])

-- the response to a refused one
unfoldable pub refused_bytes : Refusal → List ℕ
refused_bytes refusal = message_of (field_of ERROR (Len (status_bytes refusal)) ∷ [])

abbrev pub reply_of : Result OpaqueEntry Refusal → List ℕ
reply_of (Ok entry) = accepted_bytes entry.offset
reply_of (Err refusal) = refused_bytes refusal

-- what a request is answered at a history, and the history behind it
abbrev pub reply_at : List OpaqueEntry → Request → List ℕ
reply_at history request = reply_of (answer_of history request.offset request.rows)

abbrev pub history_behind : List OpaqueEntry → Request → List OpaqueEntry
history_behind history request = history_after history (answer_of history request.offset request.rows)

-- the answer with the response to what an append gave; it can want memory
abbrev pub AnswersAppend : Result ℕ AppendFault → Answer → Type 0
AnswersAppend (Ok first) (answer.Reply reply) = (reply ≡ accepted_bytes first) × (length reply < 2 ^ 32)
AnswersAppend (Err (fault.Refused refusal)) (answer.Reply reply) = (reply ≡ refused_bytes refusal) × (length reply < 2 ^ 32)
AnswersAppend (Err fault.Memory) (answer.Reply reply) = ⊥
AnswersAppend appended answer.Unreadable = ⊥
AnswersAppend appended answer.Memory = Unit {0}
