use Rattle.std.proofs.Common.{◌≡◌, ◌∙◌, Some, None}
use Rattle.open_tables.specs.Tables.{specs_of}
use Rattle.call_plans.specs.Plans.{plan}
use Rattle.conn_service.specs.Going.{Kept}
use Rattle.conn_calls.specs.Calls.{kept_in}
use Rattle.conn_calls.specs.Dealing.{dealing_of}
use Rattle.conn_calls.proofs.HeedingLemmas.{body-goes, nothing-asked, taken-others}
use Rattle.conn_calls.proofs.hearing.hear_body.Goals as goal

pub returns-in-Some-clause-heeds : goal.returns-in-Some-clause-heeds
returns-in-Some-clause-heeds g c s w keeps =
    let kept : Kept = record { call = record { body = c.in-Some.field-0.call.body; named = c.in-Some.field-0.append }; begun = c.in-Some.field-0.call.begun } in
    let seen : Some kept ≡ c.take.result = rw c.in-Some.is at c.take-2.view_is in
    c.hear_call.ensures.heeds s
    (body-goes (plan (specs_of c.args.service.now.tables.now)) s c.args.id c.args.passes (g.C.Clock.readings c.args.clock.now) (dealing_of c.args.conn.now) kept c.args.bytes.now c.args.ended (seen ∙ c.take.ensures.call ∙ keeps c.args.id) w)
    (taken-others (plan (specs_of c.args.service.now.tables.now)) s c.args.id c.args.passes (g.C.Clock.readings c.args.clock.now) (dealing_of c.args.conn.now) (kept_in c.take.new.self) (kept_in c.args.calls.now) keeps c.take.ensures.others)

pub returns-in-None-clause-heeds : goal.returns-in-None-clause-heeds
returns-in-None-clause-heeds g c s w keeps =
    let seen : None ≡ c.take.result = rw c.in-None.is at c.take-2.view_is in
    nothing-asked (plan (specs_of c.args.service.now.tables.now)) s c.args.id c.args.passes (g.C.Clock.readings c.args.clock.now) (dealing_of c.args.conn.now) (kept_in c.take.new.self) (kept_in c.args.calls.now) c.args.bytes.now c.args.ended (seen ∙ c.take.ensures.call) keeps c.take.ensures.others w
