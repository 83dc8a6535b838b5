-- How a body ends, by its bytes and by the framed replies that were written.
use Rattle.std.specs.Prelude.{◌≡◌, ◌≢◌, ℕ, ◌<◌, ◌≤◌, Bool, IsTrue, List, [], ◌++◌, length, take, ⊤, Option, None, Some, IfSome}
use Rattle.std.specs.Io.KnownBytes.{Appends, IsAtEnd}
use Rattle.std.specs.List.{AllByRecursion}
use Rattle.std.proofs.Common.{◌⊎◌}
use Rattle.outside.specs.Faults.{Rose}
use Rattle.grpc_frame.specs.Messages.{Messages}
use Rattle.grpc_frame.specs.declared.limits.TheConstants.{MESSAGE_LIMIT}
use Rattle.call_body.specs.declared.limits.TheConstants.{BODY_LIMIT}
use Rattle.call_body.specs.declared.ends.BodyEnd.{BodyEnd}
use Rattle.call_body.specs.declared.ends.BodyEnd.TheVariants as ends
use Rattle.call_body.specs.Reading.{Reads, IsStop, IsUnfinished, AppendsWhereTold}

-- what stands in front of a want of memory or a fault: the replies written are the first bytes of all that are due
abbrev pub ReadsPartly : {S : Type 0} → (List ℕ → Bool) → (S → List ℕ → List ℕ → S → Type 0) → List ℕ → List ℕ → S → S → Type 0
ReadsPartly readable answers bytes replied old new =
    (rest : List ℕ) × (due : List ℕ) × (unwritten : List ℕ) × Reads readable answers bytes rest due old new × (due ≡ replied ++ unwritten)

-- The end of a body, which is these bytes. Done: it is whole messages. Cut: it ends inside a message. Long: it is longer
-- than a body may be. Refused: it stops at a message. The byte behind the limit is met after all before it.
abbrev pub EndsAs : {S : Type 0} → (List ℕ → Bool) → (S → List ℕ → List ℕ → S → Type 0) → List ℕ → List ℕ → S → S → BodyEnd → Type 0
EndsAs readable answers bytes replied old new ends.Done = (length bytes ≤ BODY_LIMIT) × Reads readable answers bytes [] replied old new
EndsAs readable answers bytes replied old new ends.Cut =
    (length bytes ≤ BODY_LIMIT) × ((rest : List ℕ) × (rest ≢ []) × IsUnfinished rest × Reads readable answers bytes rest replied old new)
EndsAs readable answers bytes replied old new ends.Long =
    (BODY_LIMIT < length bytes) × ((rest : List ℕ) × IsUnfinished rest × Reads readable answers (take BODY_LIMIT bytes) rest replied old new)
EndsAs readable answers bytes replied old new ends.Refused =
    (rest : List ℕ) × IsStop readable rest × Reads readable answers (take BODY_LIMIT bytes) rest replied old new
EndsAs readable answers bytes replied old new ends.Outside = ReadsPartly readable answers (take BODY_LIMIT bytes) replied old new
EndsAs readable answers bytes replied old new ends.Memory = ReadsPartly readable answers (take BODY_LIMIT bytes) replied old new

-- the bytes that the sink took; one that met a fault needn't tell them
abbrev pub Writes : Option (List ℕ) → Option (List ℕ) → List ℕ → BodyEnd → Type 0
Writes before now replied ends.Outside = AppendsWhereTold before now replied
Writes before now replied _ = Appends before now replied

-- at Done the input was read to its end, where its bytes were told
abbrev pub ReadsAll : Option (List ℕ) → Option (List ℕ) → BodyEnd → Type 0
ReadsAll left0 left ends.Done = IfSome left0 (λ _. IsAtEnd left)
ReadsAll left0 left _ = Unit {0}

-- so many bytes were taken from the source at most, where it tells still what is left
abbrev pub TakesAtMost : ℕ → Option (List ℕ) → Option (List ℕ) → Type 0
TakesAtMost most None left = ⊤
TakesAtMost most (Some all) None = ⊤
TakesAtMost most (Some all) (Some rest) = (front : List ℕ) × (length front ≤ most) × (all ≡ front ++ rest)

-- Outside comes only where a count of faults rose, and a count rises only with Outside
abbrev pub HasCause : ℕ → ℕ → ℕ → ℕ → BodyEnd → Type 0
HasCause input0 input out0 out ends.Outside = Rose input0 input ⊎ Rose out0 out
HasCause input0 input out0 out _ = (input ≡ input0) × (out ≡ out0)

-- a body of whole messages that can all be read
abbrev pub IsGoodBody : (List ℕ → Bool) → List ℕ → Type 0
IsGoodBody readable bytes =
    (length bytes ≤ BODY_LIMIT) × ((messages : List (List ℕ)) × Messages MESSAGE_LIMIT bytes messages [] × AllByRecursion (λ m. IsTrue (readable m)) messages)

abbrev pub IsDoneOrMemory : BodyEnd → Type 0
IsDoneOrMemory end = (end ≡ ends.Done) ⊎ (end ≡ ends.Memory)
