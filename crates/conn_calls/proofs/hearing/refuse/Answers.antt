use Rattle.std.proofs.Common.{subst, false, []}
use Rattle.open_tables.specs.Tables.{specs_of}
use Rattle.conn_requests.specs.declared.asks.Ask.TheVariants as ask
use Rattle.conn_requests.specs.Decided.{item_for}
use Rattle.call_plans.specs.Plans.{plan}
use Rattle.conn_calls.specs.declared.asked.Asked.{Asked}
use Rattle.conn_calls.specs.Answering.{AsksOne}
use Rattle.conn_calls.specs.Dealing.{dealing_of}
use Rattle.conn_calls.proofs.HeedingLemmas.{refused-over, refused-lost}
use Rattle.conn_calls.proofs.hearing.refuse.Goals as goal

pub returns-in-Over-clause-heeds : goal.returns-in-Over-clause-heeds
returns-in-Over-clause-heeds g c s kept w others =
    let P : Asked → Type 0 = λ k. AsksOne k (plan (specs_of c.args.service.now.tables.now)) (item_for c.args.id c.new-append.result (ask.Ends c.args.over)) false c.args.passes c.answer_one-passes.result.0 (g.C.Clock.readings c.args.clock.now) (g.C.Clock.readings c.answer_one-passes.new.clock) (dealing_of c.request_whole.new.self) (dealing_of c.answer_one-passes.new.conn) in
    refused-over (plan (specs_of c.args.service.now.tables.now)) s c.args.id c.answer_one-passes.result.0 (g.C.Clock.readings c.answer_one-passes.new.clock) (dealing_of c.answer_one-passes.new.conn) (dealing_of c.args.conn.now) (dealing_of c.request_whole.new.self) (g.C.Clock.readings c.args.clock.now) c.args.passes c.new-append.result c.args.over w (c.request_whole.ensures (ask.Ends c.args.over) []) c.new-append.ensures kept others (subst P c.in-Over.is c.answer_one-passes.ensures.asks)

pub returns-clause-heeds : goal.returns-clause-heeds
returns-clause-heeds g c s kept w others =
    let P : Asked → Type 0 = λ k. AsksOne k (plan (specs_of c.args.service.now.tables.now)) (item_for c.args.id c.new-append.result (ask.Ends c.args.over)) false c.args.passes c.answer_one-passes.result.0 (g.C.Clock.readings c.args.clock.now) (g.C.Clock.readings c.answer_one-passes.new.clock) (dealing_of c.request_whole.new.self) (dealing_of c.answer_one-passes.new.conn) in
    refused-lost (plan (specs_of c.args.service.now.tables.now)) s c.args.id c.answer_one-passes.result.0 (g.C.Clock.readings c.answer_one-passes.new.clock) (dealing_of c.answer_one-passes.new.conn) (dealing_of c.args.conn.now) (dealing_of c.request_whole.new.self) (g.C.Clock.readings c.args.clock.now) c.args.passes c.new-append.result c.args.over w (c.request_whole.ensures (ask.Ends c.args.over) []) c.new-append.ensures (subst P c.in-Memory.is c.answer_one-passes.ensures.asks)
