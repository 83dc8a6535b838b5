use Rattle.std.proofs.Common.{sym, ap, ◌∙◌}
use Rattle.open_tables.proofs.TableLemmas.{opened}
use Rattle.open_tables.proofs.tables.open_all.Goals as goal

pub loop-spec-preserved : goal.loop-spec-preserved
loop-spec-preserved c =
    rw c.in_ok-push.ensures.items (rw c.in_ok-push-2.ensures.items
    (opened c.loop-spec.each.items c.loop-spec.passes.items c.loop-spec.yielded c.in-Some.spec c.in_ok-turn.turn c.in_ok-turn.pass
    c.loop-spec.invariant.0 c.loop-spec.invariant.1 c.loop-spec.invariant.2 c.in_ok-turn.ensures.turn c.in_ok-turn.ensures.pass))
