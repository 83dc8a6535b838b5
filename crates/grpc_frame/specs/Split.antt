-- The messages that a body begins with and what is behind them, as a function. It gives the one reading that `Messages`
-- speaks of.
use Rattle.std.specs.Prelude.{ℕ, zero, suc, List, [], ◌∷◌, length, drop}
use Rattle.grpc_frame.specs.declared.part.Part.{Part}
use Rattle.grpc_frame.specs.declared.part.Part.TheVariants.{Message}
use Rattle.grpc_frame.specs.Frame.{frame}
use Rattle.grpc_frame.specs.Part.{part_of}

pub record Split : Type 0 where
  pub messages : List (List ℕ)
  pub rest : List ℕ

-- no message stands in front
abbrev pub rest_only : List ℕ → Split
rest_only bytes = record { messages = []; rest = bytes }

abbrev pub with_message : List ℕ → Split → Split
with_message message split = record { messages = message ∷ split.messages; rest = split.rest }

-- bytes that begin with this part, and how those behind a message are split
abbrev pub split_by : Part → List ℕ → (List ℕ → Split) → Split
split_by (Message message) bytes split_behind = with_message message (split_behind (drop (length (frame message)) bytes))
split_by _ bytes split_behind = rest_only bytes

-- at most so many messages
abbrev pub split_within : (limit most : ℕ) → List ℕ → Split
split_within limit zero bytes = rest_only bytes
split_within limit (suc most) bytes = split_by (part_of limit bytes) bytes (split_within limit most)

-- a message has five bytes at least, so there are no more messages than bytes
unfoldable pub split_of : (limit : ℕ) → List ℕ → Split
split_of limit bytes = split_within limit (length bytes) bytes
