use Rattle.std.proofs.Common.{rules, ap, ◌∙◌}
use Rattle.turn_table.specs.Rule.{part_of, meaning}
use Rattle.turn_table.proofs.RuleLemmas.{splits}
use Rattle.turn_table.proofs.turn.Turn.split_pass.Goals as goal

pub split_seat-other-requires : goal.split_seat-other-requires
split_seat-other-requires g c =
    let k = meaning g.M.Machine.history g.M.Machine.fixed g.M.Machine.caller_of g.M.Machine.takes g.M.Machine.allows in
    let drawn = c.draw_number-drawn.ensures.drawn in let was = c.pass.invariant in (
      search rules,
      search rules,
      splits k (g.M.Machine.fixed c.self.inside.table.shared.key.value) _ _ c.draw_number-drawn.result (part_of g.M.Machine.anything c.pass.inside.seat)
          (ap (λ m. m.0.stage) drawn ∙ was.idle) (ap (λ m. m.0.second) drawn) (ap (λ m. m.0.alone) drawn) (ap (λ m. m.0.fixed) drawn ∙ was.live),
    )
