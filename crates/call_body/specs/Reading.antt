-- A body that is read up to some place: its messages so far, and their replies.
use Rattle.std.specs.Prelude.{◌≡◌, ℕ, Bool, false, List, ◌++◌, ⊤, Option, None, Some}
use Rattle.std.specs.List.{AllByRecursion}
use Rattle.grpc_frame.specs.Frame.{framed}
use Rattle.grpc_frame.specs.Messages.{IsWithin}
use Rattle.grpc_frame.specs.Part.{part_of}
use Rattle.grpc_frame.specs.declared.part.Part.{Part}
use Rattle.grpc_frame.specs.declared.part.Part.TheVariants as part
use Rattle.grpc_frame.specs.declared.limits.TheConstants.{MESSAGE_LIMIT}
use Rattle.call_body.specs.Answers.{Answered}

-- the bytes are whole messages, each within the limit, and a rest; the framed replies to these messages are `replied`
pub record Reads {S : Type 0} (readable : List ℕ → Bool) (answers : S → List ℕ → List ℕ → S → Type 0) (bytes rest replied : List ℕ) (old new : S) : Type 0 where
  pub messages : List (List ℕ)
  pub replies : List (List ℕ)
  pub whole : bytes ≡ framed messages ++ rest
  pub within : AllByRecursion (IsWithin MESSAGE_LIMIT) messages
  pub answered : Answered readable answers messages replies old new
  pub spelled : replied ≡ framed replies

-- a rest that has no whole message, and can go on as one
abbrev pub IsUnfinished : List ℕ → Type 0
IsUnfinished rest = part_of MESSAGE_LIMIT rest ≡ part.More

-- what a body stops at: a message that can't be read, one with another flag, one that is too long
abbrev pub IsStopAt : (List ℕ → Bool) → Part → Type 0
IsStopAt readable (part.Message message) = readable message ≡ false
IsStopAt readable part.More = ⊥
IsStopAt readable (part.Compressed flag) = ⊤
IsStopAt readable (part.TooLong len) = ⊤

abbrev pub IsStop : (List ℕ → Bool) → List ℕ → Type 0
IsStop readable rest = IsStopAt readable (part_of MESSAGE_LIMIT rest)

-- the bytes taken grew by these, where they are told still
abbrev pub AppendsWhereTold : Option (List ℕ) → Option (List ℕ) → List ℕ → Type 0
AppendsWhereTold None new bytes = ⊤
AppendsWhereTold (Some before) None bytes = ⊤
AppendsWhereTold (Some before) (Some now) bytes = now ≡ before ++ bytes
