use Rattle.std.proofs.Common.{◌∙◌, sym, subst, false, [], Some, None}
use Rattle.open_tables.specs.Tables.{specs_of}
use Rattle.grpc_meta.specs.Request.{method_in}
use Rattle.call_plans.specs.Plans.{plan}
use Rattle.conn_calls.specs.Calls.{kept_in}
use Rattle.conn_calls.specs.Answering.{Answering, bodies}
use Rattle.conn_calls.specs.Dealing.{dealing_of}
use Rattle.conn_calls.proofs.HeedingLemmas.{request-opened, opened-begun, request-refused, heeded-over}
use Rattle.conn_calls.proofs.hearing.open_call.Goals as goal

pub returns-in-Ok-clause-heeds : goal.returns-in-Ok-clause-heeds
returns-in-Ok-clause-heeds g c s w others =
    let begun = opened-begun c.args.fields.now (method_in c.args.fields.now) c.in-Ok.call (sym c.in-Ok.ensures) in
    let goes = request-opened (plan (specs_of c.args.service.now.tables.now)) s c.args.id c.args.passes (g.C.Clock.readings c.args.clock.now) (dealing_of c.args.conn.now) false c.args.fields.now c.args.ended c.in-Ok.call c.new-append.result (sym c.in-Ok.ensures) c.new-append.ensures w in
    c.hear_call.ensures.heeds s (subst (λ b. Answering (plan (specs_of c.args.service.now.tables.now)) s c.args.id c.args.passes (g.C.Clock.readings c.args.clock.now) (dealing_of c.args.conn.now) b (bodies c.args.id [] c.args.ended (record { body = c.in-Ok.call.body; named = c.new-append.result }))) (sym begun) goes) others

pub returns-in-Some-clause-heeds : goal.returns-in-Some-clause-heeds
returns-in-Some-clause-heeds g c s w others =
    c.refuse.ensures.heeds s (kept_in c.args.calls.now) (request-refused (plan (specs_of c.args.service.now.tables.now)) s c.args.id c.args.passes (g.C.Clock.readings c.args.clock.now) (dealing_of c.args.conn.now) false c.args.fields.now c.args.ended c.in-Err.fault (Some c.in-Some.over) (sym c.in-Err.ensures) (sym c.over_of.ensures ∙ c.in-Some.is) w) others

pub returns-in-None-clause-heeds : goal.returns-in-None-clause-heeds
returns-in-None-clause-heeds g c s w others =
    heeded-over (plan (specs_of c.args.service.now.tables.now)) s c.args.id c.args.passes (g.C.Clock.readings c.args.clock.now) (dealing_of c.args.conn.now) false (kept_in c.args.calls.now) (request-refused (plan (specs_of c.args.service.now.tables.now)) s c.args.id c.args.passes (g.C.Clock.readings c.args.clock.now) (dealing_of c.args.conn.now) false c.args.fields.now c.args.ended c.in-Err.fault None (sym c.in-Err.ensures) (sym c.over_of.ensures ∙ c.in-None.is) w) others
