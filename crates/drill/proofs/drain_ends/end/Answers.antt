-- What was drained, or why nothing was.
use Rattle.std.proofs.Common.{sym, subst}
use Rattle.drill.specs.Drains.{Drains}
use Rattle.drill.proofs.EndLemmas.{drains_by}
use Rattle.drill.proofs.StepLemmas.{legal_went}
use Rattle.drill.proofs.drain_ends.end.Goals as goal

pub returns-clause-drains : goal.returns-clause-drains
returns-clause-drains g c = λ moves stands.
    let new = c.end_parts-pass.result.0 in
    let legal = legal_went c.args.session c.args.pass new c.end_parts-pass.ensures.went c.seen_is_legal.ensures in
    subst (Drains c.args.pass.fixed c.args.pass.number c.args.session moves new.seen) (sym c.drained.ensures)
    (drains_by c.args.pass.fixed c.args.pass.number new.seen c.args.session moves c.args.parts.items c.node_numbers-nodes.result c.end_parts-pass.result.1 legal
    (rw c.as_slice.ensures.value at c.node_numbers-nodes.ensures) (c.end_parts-pass.ensures.reads moves stands) (c.end_parts-pass.ensures.fails moves stands))
