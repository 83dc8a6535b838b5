-- The steps of reading a body: a piece that is fed, and the messages held that are answered.
use Rattle.std.specs.Prelude.{◌≡◌, ℕ, ◌+◌, ◌<◌, ◌≤◌, Bool, true, false, IsTrue, List, ◌++◌, length, take, Option}
use Rattle.std.specs.Io.KnownBytes.{Appends, Consumes, IsAtEnd, Keeps}
use Rattle.std.proofs.Common.{◌⊎◌}
use Rattle.outside.specs.Faults.{Rose}
use Rattle.outside.specs.Streams.{SameWhereTold}
use Rattle.grpc_frame.specs.Frame.{frame}
use Rattle.call_body.specs.declared.pieces.Fed.{Fed}
use Rattle.call_body.specs.declared.pieces.Fed.TheVariants as fed
use Rattle.call_body.specs.declared.replies.Step.{Step}
use Rattle.call_body.specs.declared.replies.Step.TheVariants as step
use Rattle.call_body.specs.Reading.{Reads, IsStop, IsUnfinished, AppendsWhereTold}
use Rattle.call_body.specs.Ends.{ReadsPartly}

-- a piece of the source's bytes: all but what lies behind `room` is held, behind what was held
abbrev pub FeedsPiece : ℕ → Option (List ℕ) → Option (List ℕ) → List ℕ → List ℕ → ℕ → ℕ → Fed → Type 0
FeedsPiece room left0 left held0 held faults0 faults (fed.Bytes n) =
    (piece : List ℕ) × (length piece ≡ n) × (0 < n) × (n ≤ room + 1) × Consumes left0 left piece × (held ≡ held0 ++ take room piece) × (faults ≡ faults0)
FeedsPiece room left0 left held0 held faults0 faults fed.End = IsAtEnd left0 × Keeps left0 left × (held ≡ held0) × (faults ≡ faults0)
FeedsPiece room left0 left held0 held faults0 faults fed.Outside = SameWhereTold left0 left × Rose faults0 faults
FeedsPiece room left0 left held0 held faults0 faults fed.Memory =
    ((piece : List ℕ) × (length piece ≤ room + 1) × Consumes left0 left piece) × (faults ≡ faults0)

-- the messages held are answered, up to an unfinished one or up to one that stops the body
abbrev pub StepsTo : {S : Type 0} → (List ℕ → Bool) → (S → List ℕ → List ℕ → S → Type 0) → List ℕ → List ℕ → S → S → Option (List ℕ) → Option (List ℕ) → Step → Type 0
StepsTo readable answers held0 held old new taken0 taken step.Went =
    (replied : List ℕ) × Reads readable answers held0 held replied old new × Appends taken0 taken replied × IsUnfinished held
StepsTo readable answers held0 held old new taken0 taken step.Refused =
    (replied : List ℕ) × (rest : List ℕ) × Reads readable answers held0 rest replied old new × Appends taken0 taken replied × IsStop readable rest
StepsTo readable answers held0 held old new taken0 taken step.Outside =
    (replied : List ℕ) × ReadsPartly readable answers held0 replied old new × AppendsWhereTold taken0 taken replied
StepsTo readable answers held0 held old new taken0 taken step.Memory =
    (replied : List ℕ) × ReadsPartly readable answers held0 replied old new × Appends taken0 taken replied

-- only a fault of the sink changes its count
abbrev pub StepCause : ℕ → ℕ → Step → Type 0
StepCause faults0 faults step.Outside = Rose faults0 faults
StepCause faults0 faults _ = faults ≡ faults0

-- all bytes were written, or the first of them and then a fault was met
abbrev pub WritesAll : Option (List ℕ) → Option (List ℕ) → ℕ → ℕ → List ℕ → Bool → Type 0
WritesAll taken0 taken faults0 faults bytes true = Appends taken0 taken bytes × (faults ≡ faults0)
WritesAll taken0 taken faults0 faults bytes false =
    ((written : List ℕ) × (unwritten : List ℕ) × (bytes ≡ written ++ unwritten) × AppendsWhereTold taken0 taken written) × Rose faults0 faults

-- a message has its reply
abbrev pub Replies : {S : Type 0} → (List ℕ → Bool) → (S → List ℕ → List ℕ → S → Type 0) → List ℕ → S → S → List ℕ → Type 0
Replies readable answers message old new reply = IsTrue (readable message) × answers old message reply new

-- one message was answered and its framed reply was written, or as much of it as was taken
abbrev pub RepliesOne : {S : Type 0} → (List ℕ → Bool) → (S → List ℕ → List ℕ → S → Type 0) → List ℕ → S → S → Option (List ℕ) → Option (List ℕ) → Step → Type 0
RepliesOne readable answers message old new taken0 taken step.Went =
    (reply : List ℕ) × Replies readable answers message old new reply × Appends taken0 taken (frame reply)
RepliesOne readable answers message old new taken0 taken step.Refused = (readable message ≡ false) × (new ≡ old) × Keeps taken0 taken
RepliesOne readable answers message old new taken0 taken step.Outside =
    (reply : List ℕ) × (written : List ℕ) × (unwritten : List ℕ) × Replies readable answers message old new reply
    × (frame reply ≡ written ++ unwritten) × AppendsWhereTold taken0 taken written
RepliesOne readable answers message old new taken0 taken step.Memory =
    Keeps taken0 taken × ((new ≡ old) ⊎ ((reply : List ℕ) × Replies readable answers message old new reply))
