use Rattle.std.proofs.Common.{rules, ◌∷◌, Some, ap, ◌∙◌}
use Rattle.atomic_table.specs.Table.{rest}
use Rattle.turn_table.specs.Rule.{meaning, based}
use Rattle.turn_table.proofs.RuleLemmas.{passes}
use Rattle.turn_table.proofs.steps.leave.Goals as goal

pub fetch_add-requires : goal.fetch_add-requires
fetch_add-requires g c =
    let k = meaning g.M.Machine.history g.M.Machine.fixed g.M.Machine.caller_of g.M.Machine.takes g.M.Machine.allows in
    let now = c.exchange.ensures.3 in let told = c.publish.ensures.published in (
      search rules,
      search rules,
      passes k (g.M.Machine.fixed c.args.top.now.key.value) _ _ _ c.args.machine c.requires.told.ticket
          (ap (λ m. m.0.stage) now ∙ (ap (λ m. m.0.stage) told ∙ ap (based (g.M.Machine.history c.args.machine)) c.requires.told.holds))
          (ap (λ m. m.0.fixed) now ∙ (ap (λ m. m.0.fixed) told ∙ c.requires.live))
          (ap (λ m. m.1) now ∙ ap (λ cs. (0, Some c.args.machine) ∷ rest cs) (ap (λ m. m.1) told ∙ c.requires.away)),
    )
