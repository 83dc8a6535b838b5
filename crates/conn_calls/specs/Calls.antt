-- The calls that go on, by stream.
use Rattle.std.specs.Prelude.{ℕ, List, nat_eq, Option}
use Rattle.std.specs.Map.{lookup}
use Rattle.conn_service.specs.Going.{Kept}

abbrev pub KeptCalls : Type 0
KeptCalls = List (ℕ × Kept)

-- the call that goes on on a stream
abbrev pub kept_in : KeptCalls → (stream : ℕ) → Option Kept
kept_in calls id = lookup (nat_eq id) calls
