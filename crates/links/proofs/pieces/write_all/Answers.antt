-- One piece more was taken.
use Rattle.std.proofs.Common.{◌∙◌}
use Rattle.links.proofs.PieceLemmas.{took_next, within_next}
use Rattle.links.proofs.pieces.write_all.Goals as goal

pub loop-taken-preserved : goal.loop-taken-preserved
loop-taken-preserved g c = record {
  within = within_next c.args.bytes.now c.loop-taken.taken c.in-Took.n c.loop-taken.invariant.within c.in-Took.ensures.writes.1;
  took = took_next _ (g.L.Link.log c.loop-taken.link) _ c.args.bytes.now c.loop-taken.taken c.in-Took.n c.loop-taken.invariant.took c.in-Took.ensures.writes.2;
  same_left = c.in-Took.ensures.left ∙ c.loop-taken.invariant.same_left;
  same_end = c.in-Took.ensures.ended ∙ c.loop-taken.invariant.same_end;
  not_closed = c.in-Took.ensures.open;
  ready = λ _. c.in-Took.ensures.blocked;
  count = c.in-Took.ensures.cause ∙ c.loop-taken.invariant.count;
}
