use Rattle.std.proofs.Common.{refl, ap, ◌∙◌, inl}
use Rattle.turn_table.proofs.turn.Turn.close.Goals as goal

pub publish-requires-clause-told : goal.publish-requires-clause-told
publish-requires-clause-told g c = let held = c.enter-machine.ensures.held in let found = c.enter-machine.ensures.found in record {
  ticket = held.0;
  base = g.M.Machine.history c.enter-machine.result;
  part = g.M.Machine.fixed c.enter-machine.result;
  holds = ap (λ m. m.0.stage) held.1;
  live = ap (λ m. m.0.fixed) held.1 ∙ found.fixed;
  legal = found.legal;
  grows = inl (refl, refl);
}
