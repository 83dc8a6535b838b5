use Rattle.std.proofs.Common.{◌∙◌, ap, subst}
use Rattle.open_tables.specs.Tables.{specs_of}
use Rattle.conn_requests.specs.Decided.{item_for}
use Rattle.call_plans.specs.Plans.{plan}
use Rattle.conn_calls.specs.declared.asked.Asked.{Asked}
use Rattle.conn_calls.specs.Answering.{AsksOne, Answering, rest}
use Rattle.conn_calls.specs.Dealing.{dealing_of}
use Rattle.conn_calls.proofs.AskingLemmas.{all-goes, all-over, all-lost, none-left}
use Rattle.conn_calls.proofs.asking.answer_all.Goals as goal

pub loop-ask-preserved : goal.loop-ask-preserved
loop-ask-preserved g c =
    let P : Asked → Type 0 = λ k. AsksOne k (plan (specs_of c.args.service.now.tables.now)) (item_for c.args.id c.loop-ask.append c.ask-item.result) c.has_begun-begun.result c.loop-ask.passes c.answer_one-after.result.0 (g.C.Clock.readings c.loop-ask.clock) (g.C.Clock.readings c.answer_one-after.new.clock) (dealing_of c.loop-ask.conn) (dealing_of c.answer_one-after.new.conn) in
    record {
      theirs = c.answer_one-after.ensures.theirs;
      body = ap (λ h. h.body) c.begin.ensures ∙ c.loop-ask.invariant.body;
      asks = λ s body w. all-goes (plan (specs_of c.args.service.now.tables.now)) s c.args.id c.loop-ask.passes c.answer_one-after.result.0 (g.C.Clock.readings c.loop-ask.clock) (g.C.Clock.readings c.answer_one-after.new.clock) c.loop-ask.append c.ask-item.result c.args.asks.now c.loop-ask.ask-index body (dealing_of c.loop-ask.conn) (dealing_of c.answer_one-after.new.conn) c.loop-ask.call.begun c.has_begun-begun.result c.loop-ask-test.true c.ask-item.is c.has_begun-begun.ensures (c.loop-ask.invariant.asks s body w) c.begin.new.self.begun c.answer_one-after.new.append (ap (λ h. h.begun) c.begin.ensures) (c.answer_one-after.ensures.named c.in-Goes.is) (subst P c.in-Goes.is c.answer_one-after.ensures.asks);
    }

pub returns-in-Over : goal.returns-in-Over
returns-in-Over g c =
    let P : Asked → Type 0 = λ k. AsksOne k (plan (specs_of c.args.service.now.tables.now)) (item_for c.args.id c.loop-ask.append c.ask-item.result) c.has_begun-begun.result c.loop-ask.passes c.answer_one-after.result.0 (g.C.Clock.readings c.loop-ask.clock) (g.C.Clock.readings c.answer_one-after.new.clock) (dealing_of c.loop-ask.conn) (dealing_of c.answer_one-after.new.conn) in
    record {
      theirs = c.answer_one-after.ensures.theirs;
      asks = λ s body w. all-over (plan (specs_of c.args.service.now.tables.now)) s c.args.id c.loop-ask.passes c.answer_one-after.result.0 (g.C.Clock.readings c.loop-ask.clock) (g.C.Clock.readings c.answer_one-after.new.clock) c.loop-ask.append c.ask-item.result c.args.asks.now c.loop-ask.ask-index body (dealing_of c.loop-ask.conn) (dealing_of c.answer_one-after.new.conn) c.loop-ask.call.begun c.has_begun-begun.result c.loop-ask-test.true c.ask-item.is c.has_begun-begun.ensures (c.loop-ask.invariant.asks s body w) (subst P c.in-Over.is c.answer_one-after.ensures.asks);
      body = c.loop-ask.invariant.body;
    }

pub returns-in-Memory : goal.returns-in-Memory
returns-in-Memory g c =
    let P : Asked → Type 0 = λ k. AsksOne k (plan (specs_of c.args.service.now.tables.now)) (item_for c.args.id c.loop-ask.append c.ask-item.result) c.has_begun-begun.result c.loop-ask.passes c.answer_one-after.result.0 (g.C.Clock.readings c.loop-ask.clock) (g.C.Clock.readings c.answer_one-after.new.clock) (dealing_of c.loop-ask.conn) (dealing_of c.answer_one-after.new.conn) in
    record {
      theirs = c.answer_one-after.ensures.theirs;
      asks = λ s body w. all-lost (plan (specs_of c.args.service.now.tables.now)) s c.args.id c.loop-ask.passes c.answer_one-after.result.0 (g.C.Clock.readings c.loop-ask.clock) (g.C.Clock.readings c.answer_one-after.new.clock) c.loop-ask.append c.ask-item.result c.args.asks.now c.loop-ask.ask-index body (dealing_of c.loop-ask.conn) (dealing_of c.answer_one-after.new.conn) c.loop-ask.call.begun c.has_begun-begun.result c.loop-ask-test.true c.ask-item.is c.has_begun-begun.ensures (c.loop-ask.invariant.asks s body w) (subst P c.in-Memory.is c.answer_one-after.ensures.asks);
      body = c.loop-ask.invariant.body;
    }

pub returns-clause-asks : goal.returns-clause-asks
returns-clause-asks g c s body w =
    subst (λ l. Answering (plan (specs_of c.args.service.now.tables.now)) s c.args.id c.loop-ask.passes (g.C.Clock.readings c.loop-ask.clock) (dealing_of c.loop-ask.conn) c.loop-ask.call.begun (rest c.args.id c.loop-ask.append body l)) (none-left c.args.asks.now c.loop-ask.ask-index c.loop-ask-test.false) (c.loop-ask.invariant.asks s body w)
