use Rattle.std.proofs.Common.{rules, arith, ap, ◌∙◌}
use Rattle.turn_table.specs.Rule.{meaning}
use Rattle.turn_table.proofs.RuleLemmas.{draws}
use Rattle.turn_table.proofs.steps.draw.Goals as goal

pub compare_exchange-was-requires : goal.compare_exchange-was-requires
compare_exchange-was-requires g c = let k = meaning g.M.Machine.history g.M.Machine.fixed g.M.Machine.caller_of g.M.Machine.takes g.M.Machine.allows in
    (search rules, search rules, draws k (g.M.Machine.fixed c.args.top.now.key.value) _ _ _ c.peek-found.result (ap (λ m. m.0.stage) c.loop.invariant.1 ∙ c.requires.idle) (let a = c.if-found-lt18446744073709551615.true in omega arith))
