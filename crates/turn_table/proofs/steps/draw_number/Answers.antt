use Rattle.std.proofs.Common.{rules, ap, ◌∙◌}
use Rattle.turn_table.specs.Rule.{meaning}
use Rattle.turn_table.proofs.RuleLemmas.{numbers}
use Rattle.turn_table.proofs.steps.draw_number.Goals as goal

pub compare_exchange-was-requires : goal.compare_exchange-was-requires
compare_exchange-was-requires g c = let k = meaning g.M.Machine.history g.M.Machine.fixed g.M.Machine.caller_of g.M.Machine.takes g.M.Machine.allows in
    (search rules, search rules, numbers k (g.M.Machine.fixed c.args.top.now.key.value) _ _ _ c.peek-found.result c.requires.live.0 (ap (λ m. m.0.stage) c.loop.invariant.1 ∙ c.requires.idle) (ap (λ m. m.0.fixed) c.loop.invariant.1 ∙ c.requires.live.1))
