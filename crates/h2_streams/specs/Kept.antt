-- What holds of the kept parts at every moment.
use Rattle.std.specs.Prelude.{◌≡◌, ℕ, ◌<◌, ◌≤◌, nat_eq, Bool, true, false, IsTrue, IsSome, List, [], length, Option, None, Some}
use Rattle.std.specs.Map.{lookup}
use Rattle.circular_buffer.specs.Buffer.{Buffer}
use Rattle.h2_streams.specs.declared.stream.Stream.{Stream}

-- the ids in a ring, if there is one
abbrev pub ring_ids : Option (Buffer ℕ) → List ℕ
ring_ids None = []
ring_ids (Some ring) = ring.items

abbrev pub has_ring : Option (Buffer ℕ) → Bool
has_ring None = false
has_ring (Some ring) = true

-- a ring has 128 places
abbrev pub IsRingOf128 : Option (Buffer ℕ) → Type 0
IsRingOf128 None = Unit {0}
IsRingOf128 (Some ring) = ring.capacity ≡ 128

-- the ids, and whether there is room to remember the next
pub record ResetIds : Type 0 where
  pub ids : List ℕ
  pub has_room : Bool

-- No live stream has an id above the last one begun, nor 0, at most 100 live, and where one does a reset can be
-- remembered.
pub record AreStreams (live : List (ℕ × Stream)) (last : ℕ) (has_room : Bool) : Type 0 where
  pub none_above : (id : ℕ) → last < id → lookup (nat_eq id) live ≡ None
  pub none_zero : lookup (nat_eq 0) live ≡ None
  pub few : length live ≤ 100
  pub room : (id : ℕ) → IsSome (lookup (nat_eq id) live) → IsTrue has_room
