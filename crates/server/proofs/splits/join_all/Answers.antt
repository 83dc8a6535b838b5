-- The passes come side by side.
use Rattle.std.proofs.Common.{rules}
use Rattle.server.proofs.ReportLemmas.{none_given}
use Rattle.server.proofs.SplitLemmas.{keep_turn, give_turn, one_joined, all_joined, joined_theirs}
use Rattle.server.proofs.splits.join_all.Goals as goal

pub join_pass-requires-clause-keep : goal.join_pass-requires-clause-keep
join_pass-requires-clause-keep c =
    let steps = c.in-Some.ensures.steps in
    keep_turn _ _ _ _ _ _ c.in-Some.mine _ steps.0.0 c.in-Some.other _ steps.1.0 c.in-Ok.place _ (search rules) c.loop-mine.invariant.2 c.turn.ensures.turn

pub join_pass-requires-clause-give : goal.join_pass-requires-clause-give
join_pass-requires-clause-give c =
    let steps = c.in-Some.ensures.steps in
    give_turn _ _ _ _ _ _ c.in-Some.mine _ steps.0.0 c.in-Some.other _ steps.1.0 c.in-Ok.place _ (search rules) c.loop-mine.invariant.2 c.turn.ensures.turn

pub loop-mine-preserved : goal.loop-mine-preserved
loop-mine-preserved c =
    let steps = c.in-Some.ensures.steps in (
      (tt, tt),
      tt,
      one_joined _ _ _ _ _ _ c.in-Some.mine _ steps.0.0 c.in-Some.other _ steps.1.0 c.join_pass.result _ c.in_ok-push.ensures.items c.join_pass.ensures.joins c.loop-mine.invariant.2,
    )

pub returns : goal.returns
returns c =
    let rest = c.loop-mine.mine-iterator in
    let joins = all_joined _ _ _ _ _ _ (none_given _ _ _ _ rest.a.rest.ok.0 rest.b.rest.ok.0 c.in-None.ensures.steps) c.loop-mine.invariant.2 in
    record { joins = joins; theirs = joined_theirs _ _ _ _ c.requires.keep joins }
