use Rattle.std.proofs.Common.{◌≡◌, rules, List, [], ◌∷◌, ◌++◌, Option, Some, sym, ap, ◌∙◌, subst}
use Rattle.atomic_table.specs.Table.{opening}
use Rattle.turn_table.specs.Rule.{Orderly, meaning, newcomer}
use Rattle.turn_table.proofs.RuleLemmas.{starts}
use Rattle.turn_table.proofs.turn.Turn.new.Goals as goal

pub new-requires : goal.new-requires
new-requires g c =
    let k = meaning g.M.Machine.history g.M.Machine.fixed g.M.Machine.caller_of g.M.Machine.takes g.M.Machine.allows in
    let items : c.push.new.self.items ≡ Some c.args.machine ∷ [] = c.in_ok-push.ensures.items ∙ ap (λ l. l ++ Some c.args.machine ∷ []) c.in_ok-slots.ensures.items in
    let same : c.of-start.result.value ≡ c.args.machine = search rules in
    let part = g.M.Machine.fixed c.of-start.result.value in
    subst (λ (z : List (Option g.row.M.Denot)). Orderly k part (opening (0 ∷ 0 ∷ 1 ∷ 0 ∷ []) z (newcomer part))) (sym items)
    (starts k part c.args.machine c.requires (ap g.M.Machine.fixed (sym same)) tt)
