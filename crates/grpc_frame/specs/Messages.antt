-- The messages of a body, and the rest behind them.
use Rattle.std.specs.Prelude.{◌≡◌, ◌≢◌, ◌≤◌, ℕ, List, [], ◌++◌, length}
use Rattle.std.specs.List.{AllByRecursion}
use Rattle.grpc_frame.specs.declared.part.Part.{Part}
use Rattle.grpc_frame.specs.declared.part.Part.TheVariants.{Message, More}
use Rattle.grpc_frame.specs.Frame.{frame, framed}
use Rattle.grpc_frame.specs.Part.{part_of}

abbrev pub IsMessage : Part → Type 0
IsMessage (Message message) = Unit {0}
IsMessage _ = ⊥

abbrev pub IsWithin : ℕ → List ℕ → Type 0
IsWithin limit message = length message ≤ limit

-- the body is these messages, each within the limit, and a rest that begins with none:
-- what the rest begins with is why the list ends
pub record Messages (limit : ℕ) (body : List ℕ) (messages : List (List ℕ)) (rest : List ℕ) : Type 0 where
  pub whole : body ≡ framed messages ++ rest
  pub each : AllByRecursion (IsWithin limit) messages
  pub ends : IsMessage (part_of limit rest) → ⊥

-- a message is taken from the front of the bytes, exactly as it is spelled, and nothing else is
abbrev pub Takes : ℕ → List ℕ → List ℕ → Part → Type 0
Takes limit old new (Message message) = (old ≡ frame message ++ new) × (length message ≤ limit)
Takes limit old new _ = new ≡ old

-- behind the whole messages there are bytes, of a message that is not whole
abbrev pub IsInside : ℕ → List ℕ → Type 0
IsInside limit bytes =
    (messages : List (List ℕ)) × (rest : List ℕ) × Messages limit bytes messages rest × (rest ≢ []) × (part_of limit rest ≡ More)
