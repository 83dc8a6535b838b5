-- The truth is that of the part that is left, between the two bounds.
use Rattle.std.proofs.Common.{◌≡◌, ◌≤◌}
use Rattle.column_types.specs.declared.predicate.Pred.{size-Pred}
use Rattle.column_types.specs.Truth.{truth_of}
use Rattle.column_types.proofs.TruthLemmas.{between}
use Rattle.column_types.proofs.evaluation.+truth.Given as goal

abbrev pub decreases-truth : goal.decreases-truth
decreases-truth l = goal.size-truth l

abbrev pub invariant-loop-here : goal.invariant-loop-here
invariant-loop-here l = record {
  no_deeper : size-Pred l.here ≤ size-Pred l.initial.pred;
  bounded : between l.low l.high (truth_of l.here l.row) ≡ truth_of l.initial.pred l.row;
}

abbrev pub decreases-loop-here : goal.decreases-loop-here
decreases-loop-here l = size-Pred l.here
