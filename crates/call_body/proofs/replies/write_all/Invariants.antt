-- The bytes so far were taken, and the rest is left.
use Rattle.std.proofs.Common.{◌≡◌, ℕ, List, ◌++◌, length}
use Rattle.std.specs.Io.KnownBytes.{Appends}
use Rattle.call_body.proofs.replies.write_all.Given as goal

abbrev pub invariant-loop-rest : goal.invariant-loop-rest
invariant-loop-rest g l =
    (written : List ℕ) × (l.bytes ≡ written ++ l.rest) × Appends (g.O.Sink.taken l.initial.out) (g.O.Sink.taken l.out) written
    × (g.O.Sink.faults l.out ≡ g.O.Sink.faults l.initial.out)

abbrev pub decreases-loop-rest : goal.decreases-loop-rest
decreases-loop-rest g l = length l.rest
