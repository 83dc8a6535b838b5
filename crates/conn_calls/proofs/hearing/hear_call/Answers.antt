use Rattle.std.proofs.Common.{subst, Some}
use Rattle.open_tables.specs.Tables.{specs_of}
use Rattle.call_plans.specs.Plans.{plan}
use Rattle.conn_calls.specs.declared.asked.Asked.{Asked}
use Rattle.conn_calls.specs.Calls.{kept_in}
use Rattle.conn_calls.specs.Answering.{AsksAll}
use Rattle.conn_calls.specs.Dealing.{dealing_of}
use Rattle.conn_calls.proofs.HeedingLemmas.{heeded-put, heeded-over, not-kept}
use Rattle.conn_calls.proofs.hearing.hear_call.Goals as goal

pub returns-in-Ok-clause-heeds : goal.returns-in-Ok-clause-heeds
returns-in-Ok-clause-heeds g c s w others =
    let P : Asked → Type 0 = λ k. AsksAll k (plan (specs_of c.args.service.now.tables.now)) s c.args.id c.ask_call-passes.result.0 (g.C.Clock.readings c.ask_call-passes.new.clock) (dealing_of c.ask_call-passes.new.conn) c.ask_call-passes.new.call.begun c.ask_call-passes.new.append (Some c.ask_call-passes.new.call.body) in
    heeded-put (plan (specs_of c.args.service.now.tables.now)) s c.args.id c.ask_call-passes.result.0 (g.C.Clock.readings c.ask_call-passes.new.clock) (dealing_of c.ask_call-passes.new.conn) c.ask_call-passes.new.call.begun c.ask_call-passes.new.append c.ask_call-passes.new.call.body (kept_in c.args.calls.now) (kept_in c.put.new.self) (subst P c.in-Goes.is (c.ask_call-passes.ensures.asks s w)) others c.in-Ok.ensures

pub returns-in-Err-clause-heeds : goal.returns-in-Err-clause-heeds
returns-in-Err-clause-heeds g c s w others =
    let P : Asked → Type 0 = λ k. AsksAll k (plan (specs_of c.args.service.now.tables.now)) s c.args.id c.ask_call-passes.result.0 (g.C.Clock.readings c.ask_call-passes.new.clock) (dealing_of c.ask_call-passes.new.conn) c.ask_call-passes.new.call.begun c.ask_call-passes.new.append (Some c.ask_call-passes.new.call.body) in
    not-kept (plan (specs_of c.args.service.now.tables.now)) s c.args.id c.ask_call-passes.result.0 (g.C.Clock.readings c.ask_call-passes.new.clock) (dealing_of c.ask_call-passes.new.conn) c.ask_call-passes.new.call.begun c.ask_call-passes.new.append (Some c.ask_call-passes.new.call.body) (subst P c.in-Goes.is (c.ask_call-passes.ensures.asks s w))

pub returns-in-Over-clause-heeds : goal.returns-in-Over-clause-heeds
returns-in-Over-clause-heeds g c s w others =
    let P : Asked → Type 0 = λ k. AsksAll k (plan (specs_of c.args.service.now.tables.now)) s c.args.id c.ask_call-passes.result.0 (g.C.Clock.readings c.ask_call-passes.new.clock) (dealing_of c.ask_call-passes.new.conn) c.ask_call-passes.new.call.begun c.ask_call-passes.new.append (Some c.ask_call-passes.new.call.body) in
    let over = subst P c.in-Over.is (c.ask_call-passes.ensures.asks s w) in
    heeded-over (plan (specs_of c.args.service.now.tables.now)) s c.args.id c.ask_call-passes.result.0 (g.C.Clock.readings c.ask_call-passes.new.clock) (dealing_of c.ask_call-passes.new.conn) over.0 (kept_in c.args.calls.now) over.1 others

pub returns-in-Memory-clause-heeds : goal.returns-in-Memory-clause-heeds
returns-in-Memory-clause-heeds g c s w others =
    let P : Asked → Type 0 = λ k. AsksAll k (plan (specs_of c.args.service.now.tables.now)) s c.args.id c.ask_call-passes.result.0 (g.C.Clock.readings c.ask_call-passes.new.clock) (dealing_of c.ask_call-passes.new.conn) c.ask_call-passes.new.call.begun c.ask_call-passes.new.append (Some c.ask_call-passes.new.call.body) in
    subst P c.in-Memory.is (c.ask_call-passes.ensures.asks s w)
