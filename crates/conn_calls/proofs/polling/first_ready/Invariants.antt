-- None of those so far may be polled.
use Rattle.std.proofs.Common.{ℕ, ◌<◌}
use Rattle.std.specs.Prelude.{slice_get}
use Rattle.conn_calls.proofs.PollingLemmas.{HeldAt}
use Rattle.conn_calls.proofs.polling.first_ready.Given as goal

abbrev pub invariant-loop-at : goal.invariant-loop-at
invariant-loop-at l = (k : ℕ) → k < l.at → HeldAt l.conn (slice_get l.bodies.entries k)
