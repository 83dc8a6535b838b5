-- How a call of one message ends: with its response, with a refusal, or because it can't be read (gRPC over HTTP/2,
-- Responses).
use Rattle.std.specs.Prelude.{ℕ, List, [], ◌∷◌, ◌++◌, codes, decimal}
use Rattle.write_msgs.specs.declared.faults.MsgFault.{MsgFault}
use Rattle.write_msgs.specs.declared.faults.MsgFault.TheVariants as fault
use Rattle.table_model.specs.declared.reasons.Refusal.{Refusal}
use Rattle.table_model.specs.declared.reasons.Why.{Why}
use Rattle.table_model.specs.Reasons.{refusal_of}
use Rattle.call_append.specs.Texts.{cause_text}
use Rattle.conn_requests.specs.declared.answers.Answer.{Answer}
use Rattle.conn_requests.specs.declared.answers.Answer.TheVariants as answer
use Rattle.conn_requests.specs.Ends.{status_only, lost_answer}

-- the response, and status 0
abbrev pub responded : (message : List ℕ) → Answer
responded message = answer.Ends (message ∷ []) (record { code = 0; text = [] })

abbrev pub refusal_answer : Refusal → Answer
refusal_answer refusal = status_only refusal.code (cause_text refusal.why)

-- refused for this cause
abbrev pub refused_for : Why → Answer
refused_for cause = refusal_answer (refusal_of cause)

-- Why a message can't be read: INVALID_ARGUMENT 3, UNIMPLEMENTED 12. Want of memory is no fault of the definition.
abbrev pub unreadable : MsgFault → Answer
unreadable fault.Memory = lost_answer
unreadable (fault.BadProto at) = status_only 3 (codes "malformed message at " ++ decimal at)
unreadable (fault.Unsupported field) = status_only 12 (codes "unsupported field " ++ decimal field)
unreadable (fault.BadUtf8 field) = status_only 3 (codes "bad text in field " ++ decimal field)

-- a table answers a command with no other reply than those that are told
abbrev pub untold : Answer
untold = responded []
