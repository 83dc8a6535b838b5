use Rattle.std.proofs.Common.{◌≡◌, rules, [], ◌∷◌, Some, sym, ap, ◌∙◌}
use Rattle.atomic_table.specs.Table.{rest}
use Rattle.turn_table.specs.Rule.{meaning, ticket_of}
use Rattle.turn_table.proofs.RuleLemmas.{asks}
use Rattle.turn_table.proofs.steps.take.Goals as goal

pub load-served-requires : goal.load-served-requires
load-served-requires g c = let k = meaning g.M.Machine.history g.M.Machine.fixed g.M.Machine.caller_of g.M.Machine.takes g.M.Machine.allows in
    (search rules, search rules, asks k (g.M.Machine.fixed c.args.top.now.key.value) _ _ _ c.args.ticket c.requires.live.0 (ap (λ m. m.0.stage) c.loop.invariant.1 ∙ c.requires.waits) (ap (λ m. m.0.fixed) c.loop.invariant.1 ∙ c.requires.live.1))

pub exchange-home-requires : goal.exchange-home-requires
exchange-home-requires g c =
    let ticket = ap (λ m. ticket_of m.0.stage) c.loop.invariant.1 ∙ ap ticket_of c.requires.waits in
    let took = c.load-served.ensures.2.0 (c.if-served-ticket.true ∙ sym ticket) in
    let out : c.load-served.new.seat.me.1 ≡ (0, Some took.machine) ∷ [] = ap (λ m. m.1) took.is ∙ ap (λ cs. (0, Some took.machine) ∷ cs) (ap (λ m. m.1) c.loop.invariant.1 ∙ c.requires.bare) in
    (search rules, (Some took.machine, out ∙ ap (λ cs. (0, Some took.machine) ∷ rest cs) (sym out)))
