-- The nearest node is put round what is together so far.
use Rattle.std.proofs.Common.{refl}
use Rattle.column_types.proofs.AboveLemmas.{under-pop}
use Rattle.column_types.proofs.predicate.rebuilt.Goals as goal

pub loop-node-preserved-in_ok-new-in-And : goal.loop-node-preserved-in_ok-new-in-And
loop-node-preserved-in_ok-new-in-And c =
    under-pop _ _ c.in-Some.node c.loop-node.pred _ _ c.in-Some.ensures.items
    (rw (c.in-And.is, c.in_ok-left.ensures, c.in_ok-new-in-And.ensures) refl) c.loop-node.invariant

pub loop-node-preserved-in_ok-new-in-Or : goal.loop-node-preserved-in_ok-new-in-Or
loop-node-preserved-in_ok-new-in-Or c =
    under-pop _ _ c.in-Some.node c.loop-node.pred _ _ c.in-Some.ensures.items
    (rw (c.in-Or.is, c.in_ok-left.ensures, c.in_ok-new-in-Or.ensures) refl) c.loop-node.invariant

pub loop-node-preserved : goal.loop-node-preserved
loop-node-preserved c =
    under-pop _ _ c.in-Some.node c.loop-node.pred _ _ c.in-Some.ensures.items
    (rw (c.in-Not.is, c.in_ok-left.ensures) refl) c.loop-node.invariant
