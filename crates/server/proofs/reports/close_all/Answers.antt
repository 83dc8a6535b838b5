-- The tables and the passes come side by side.
use Rattle.std.proofs.Common.{ap, ◌∙◌}
use Rattle.open_tables.specs.Tables.{OpenTable}
use Rattle.server.specs.Report.{IsClosed}
use Rattle.server.proofs.ReportLemmas.{none_closed, none_given, next_theirs, next_columns, one_closed, all_closed}
use Rattle.server.proofs.reports.close_all.Goals as goal

pub loop-spec-init : goal.loop-spec-init
loop-spec-init g c =
    let gives = c.into_iter-spec-iterator.ensures.into_iter_gives in
    let rest = ap (λ z. z.a.rest.items) gives ∙ ap (λ i. i.rest.items) c.zip-spec-items.ensures.first ∙ c.into_iter.ensures.rest in
    let others = ap (λ z. z.b.rest.items) gives ∙ c.zip-spec-items.ensures.second.0 in
    ((tt, tt), tt, none_closed _ _ _ _ _ _ rest others c.in_ok-engines.ensures.items c.requires.theirs c.requires.columns)

pub close-engine-requires : goal.close-engine-requires
close-engine-requires g c =
    let steps = c.in-Some.ensures.steps in
    next_theirs _ _ _ _ _ _ _ (c.in-Some.spec, c.in-Some.turn) _ c.in-Some.pass _ steps.0.0 steps.1.0 c.loop-spec.invariant.2

pub loop-spec-preserved : goal.loop-spec-preserved
loop-spec-preserved g c =
    let steps = c.in-Some.ensures.steps in
    let table : OpenTable = (c.in-Some.spec, c.in-Some.turn) in
    let is : IsClosed table c.in-Some.pass c.close-engine.result = record {
      columns = c.close-engine.ensures.fixed ∙ next_columns _ _ _ _ _ _ _ table _ c.in-Some.pass _ steps.0.0 steps.1.0 c.loop-spec.invariant.2;
      reaches = c.close-engine.ensures.reaches;
      legal = c.close-engine.ensures.legal;
    } in (
      (tt, tt),
      tt,
      one_closed _ _ _ _ _ _ _ table _ c.in-Some.pass _ steps.0.0 steps.1.0 c.close-engine.result _ _ c.in_ok-push.ensures.items c.in_ok-add_line.ensures
          is c.loop-spec.invariant.2,
    )

pub returns-clause-closed : goal.returns-clause-closed
returns-clause-closed g c =
    let rest = c.loop-spec.spec-iterator in
    (all_closed _ _ _ _ _ _ _ (none_given _ _ _ _ rest.a.rest.ok.0 rest.b.rest.ok.0 c.in-None.ensures.steps) c.loop-spec.invariant.2).0

pub returns-clause-lines : goal.returns-clause-lines
returns-clause-lines g c =
    let rest = c.loop-spec.spec-iterator in
    (all_closed _ _ _ _ _ _ _ (none_given _ _ _ _ rest.a.rest.ok.0 rest.b.rest.ok.0 c.in-None.ensures.steps) c.loop-spec.invariant.2).1
