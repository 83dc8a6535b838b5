-- The part that is left to copy, under all that was copied above it, is the whole.
use Rattle.std.proofs.Common.{◌≡◌, ◌≤◌}
use Rattle.column_types.specs.declared.predicate.Pred.{size-Pred}
use Rattle.column_types.specs.Above.{under}
use Rattle.column_types.proofs.predicate.Pred.+copy.Given as goal

abbrev pub decreases-copy : goal.decreases-copy
decreases-copy l = goal.size-copy l

abbrev pub invariant-loop-here : goal.invariant-loop-here
invariant-loop-here l = record {
  no_deeper : size-Pred l.here ≤ size-Pred l.initial.self;
  whole : under l.above.items l.here ≡ l.initial.self;
}
