-- For the crate's own functions: all whole messages that were held are taken, and what stands behind them.
use Rattle.std.specs.Prelude.{◌≡◌, ◌≢◌, ◌↔◌, ℕ, Bool, IsTrue, List, [], ◌∷◌, ◌++◌}
use Rattle.grpc_frame.specs.Messages.{IsMessage}
use Rattle.grpc_frame.specs.Part.{part_of}
use Rattle.grpc_frame.specs.Split.{split_of}
use Rattle.grpc_frame.specs.declared.limits.TheConstants.{MESSAGE_LIMIT}
use Rattle.grpc_frame.specs.declared.part.Part.{Part}
use Rattle.grpc_frame.specs.declared.part.Part.TheVariants as part
use Rattle.conn_requests.specs.declared.asks.Ask.{Ask}
use Rattle.conn_requests.specs.declared.asks.Ask.TheVariants as ask
use Rattle.conn_requests.specs.declared.kinds.Kind.{Kind}
use Rattle.conn_requests.specs.declared.kinds.Kind.TheVariants as kind
use Rattle.conn_requests.specs.Body.{kind_after, messages_asked}

abbrev pub message_asked : Kind → (message : List ℕ) → List Ask
message_asked kind.Appending message = ask.Append message ∷ []
message_asked (kind.Collecting m so_far) message = []

pub record TakesAll (held left : List ℕ) (old new : Kind) (asked asks : List Ask) : Type 0 where
  pub left_is : left ≡ (split_of MESSAGE_LIMIT held).rest
  pub none_left : IsMessage (part_of MESSAGE_LIMIT left) → ⊥
  pub kind_is : new ≡ kind_after old (split_of MESSAGE_LIMIT held).messages
  pub asks_are : asks ≡ asked ++ messages_asked old (split_of MESSAGE_LIMIT held).messages

-- whether the rest is inside a message, where it begins with no whole one
abbrev pub Tells : Part → (is_inside : Bool) → (rest : List ℕ) → Type 0
Tells part.More is_inside rest = IsTrue is_inside ↔ (rest ≢ [])
Tells (part.Message message) is_inside rest = ⊥
Tells _ is_inside rest = Unit {0}
