-- The passes that are left are the turn's.
use Rattle.std.proofs.Common.{sym}
use Rattle.std.proofs.lemmas.List.Elements.{All-head, All-tail, All-same}
use Rattle.turn_table.specs.View.{IsOf}
use Rattle.drill.proofs.crew.join_all.Goals as goal

pub loop-done-init : goal.loop-done-init
loop-done-init c = (tt, tt, c.requires.kept, All-same (λ done. IsOf c.args.turn.now done.pass) _ c.args.each.items c.into_iter-done-iterator.ensures.into_iter_gives.0 c.requires.theirs)

pub join_pass-pass-requires-clause-keep : goal.join_pass-pass-requires-clause-keep
join_pass-pass-requires-clause-keep c = c.loop-done.invariant.2

pub join_pass-pass-requires-clause-give : goal.join_pass-pass-requires-clause-give
join_pass-pass-requires-clause-give c =
    All-head (λ done. IsOf c.args.turn.now done.pass) c.in-Some.done _ (All-same (λ done. IsOf c.args.turn.now done.pass) _ c.loop-done.done-iterator.rest.items (sym c.in-Some.ensures.steps.0) c.loop-done.invariant.3)

pub loop-done-preserved : goal.loop-done-preserved
loop-done-preserved c = (
  tt,
  tt,
  c.join_pass-pass.ensures.theirs,
  All-tail (λ done. IsOf c.args.turn.now done.pass) c.in-Some.done _ (All-same (λ done. IsOf c.args.turn.now done.pass) _ c.loop-done.done-iterator.rest.items (sym c.in-Some.ensures.steps.0) c.loop-done.invariant.3),
)
