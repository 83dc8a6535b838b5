-- What is left to drop is no deeper than the value was.
use Rattle.std.proofs.Common.{◌≤◌}
use Rattle.column_types.specs.declared.predicate.Pred.{size-Pred}
use Rattle.column_types.proofs.predicate.Pred.+drop.Given as goal

abbrev pub decreases-drop : goal.decreases-drop
decreases-drop l = goal.size-drop l

abbrev pub invariant-loop-self : goal.invariant-loop-self
invariant-loop-self l = size-Pred l.self ≤ size-Pred l.initial.self
