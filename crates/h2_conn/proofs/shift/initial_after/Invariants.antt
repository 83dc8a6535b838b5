use Rattle.std.proofs.Common.{◌≡◌, drop}
use Rattle.h2_record.specs.Windows.{initial_after}
use Rattle.h2_conn.proofs.shift.initial_after.Given as goal

-- what is left of the pairs leads to the same size
abbrev pub invariant-loop-pair : goal.invariant-loop-pair
invariant-loop-pair l = initial_after l.last (drop l.pair-index l.pairs) ≡ initial_after l.fn.initial l.pairs
