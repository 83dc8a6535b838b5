-- The right side is copied, and the left side is left.
use Rattle.std.proofs.Common.{ap, arith}
use Rattle.column_types.specs.declared.predicate.Pred.{size-Pred}
use Rattle.column_types.specs.declared.predicate.Above.TheVariants as above
use Rattle.column_types.proofs.AboveLemmas.{under-put, size-And, size-Or, size-Not}
use Rattle.column_types.proofs.predicate.Pred.+copy.Goals as goal

pub loop-here-preserved-in-And : goal.loop-here-preserved-in-And
loop-here-preserved-in-And t c = record {
  no_deeper = omega (arith, size-And c.in-And.left c.in-And.right, ap size-Pred c.in-And.is, ap size-Pred c.get-here.ensures, c.loop-here.invariant.no_deeper);
  whole =
      under-put _ _ (above.And c.in_ok-copy-in-And.field-0) c.loop-here.here.now _ _ c.in_ok-push-in-And.ensures.items
      (rw (c.in_ok-copy-in-And.ensures, c.get.ensures, c.get-here.ensures) c.in-And.is) c.loop-here.invariant.whole;
}

pub loop-here-preserved-in-Or : goal.loop-here-preserved-in-Or
loop-here-preserved-in-Or t c = record {
  no_deeper = omega (arith, size-Or c.in-Or.left c.in-Or.right, ap size-Pred c.in-Or.is, ap size-Pred c.get-here-in-Or.ensures, c.loop-here.invariant.no_deeper);
  whole =
      under-put _ _ (above.Or c.in_ok-copy-in-Or.field-0) c.loop-here.here.now _ _ c.in_ok-push-in-Or.ensures.items
      (rw (c.in_ok-copy-in-Or.ensures, c.get-in-Or.ensures, c.get-here-in-Or.ensures) c.in-Or.is) c.loop-here.invariant.whole;
}

pub loop-here-preserved : goal.loop-here-preserved
loop-here-preserved t c = record {
  no_deeper = omega (arith, size-Not c.in-Not.inner, ap size-Pred c.in-Not.is, ap size-Pred c.get-here-in-Not.ensures, c.loop-here.invariant.no_deeper);
  whole =
      under-put _ _ above.Not c.loop-here.here.now _ _ c.in_ok-push-in-Not.ensures.items
      (rw c.get-here-in-Not.ensures c.in-Not.is) c.loop-here.invariant.whole;
}
