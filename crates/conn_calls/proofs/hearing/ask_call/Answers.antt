use Rattle.std.proofs.Common.{◌≡◌, ◌∙◌, sym, subst, Some}
use Rattle.open_tables.specs.Tables.{specs_of}
use Rattle.conn_requests.specs.Body.{Body, asks_of}
use Rattle.call_plans.specs.Plans.{plan}
use Rattle.conn_calls.specs.Answering.{AsksAll, Answering, rest}
use Rattle.conn_calls.specs.Dealing.{dealing_of, MarksOn}
use Rattle.conn_calls.proofs.HeedingLemmas.{body-asked, body-lost}
use Rattle.conn_calls.proofs.hearing.ask_call.Goals as goal

pub returns-in_default-clause-asks : goal.returns-in_default-clause-asks
returns-in_default-clause-asks g c s w =
    body-lost (plan (specs_of c.args.service.now.tables.now)) s c.args.id c.args.passes (g.C.Clock.readings c.args.clock.now) (dealing_of c.args.conn.now) c.args.call.now.begun c.args.append.now c.args.call.now.body c.args.bytes.now c.args.ended w

pub returns-clause-asks : goal.returns-clause-asks
returns-clause-asks g c s w =
    let first : c.deref.result.now ≡ c.in-Ok.asks.items = c.deref.ensures.value in
    let second : c.deref-2.result.now ≡ c.in-Ok.asks.items = c.deref-2.ensures.value in
    let marks : MarksOn (dealing_of c.args.conn.now) (dealing_of c.mark.new.conn) c.deref-2.result.now = subst (MarksOn (dealing_of c.args.conn.now) (dealing_of c.mark.new.conn)) (first ∙ sym second) c.mark.ensures in
    let begun = c.hear.ensures.begun in
    let asks_are : c.deref-2.result.now ≡ asks_of c.args.call.now.body c.args.bytes.now c.args.ended = second ∙ c.in-Ok.ensures.asks in
    let asked = body-asked (plan (specs_of c.args.service.now.tables.now)) s c.args.id c.args.passes (g.C.Clock.readings c.args.clock.now) (dealing_of c.args.conn.now) c.args.call.now.begun (dealing_of c.mark.new.conn) c.args.append.now c.args.call.now.body c.hear.new.self.body c.args.bytes.now c.args.ended c.deref-2.result.now w asks_are c.in-Ok.ensures.body marks in
    let P : Body → Type 0 = λ b. AsksAll c.answer_all.result.1 (plan (specs_of c.args.service.now.tables.now)) s c.args.id c.answer_all.result.0 (g.C.Clock.readings c.answer_all.new.clock) (dealing_of c.answer_all.new.conn) c.answer_all.new.call.begun c.answer_all.new.append (Some b) in
    subst P (sym c.answer_all.ensures.body) (c.answer_all.ensures.asks s (Some c.hear.new.self.body) (subst (λ b. Answering (plan (specs_of c.args.service.now.tables.now)) s c.args.id c.args.passes (g.C.Clock.readings c.args.clock.now) (dealing_of c.mark.new.conn) b (rest c.args.id c.args.append.now (Some c.hear.new.self.body) c.deref-2.result.now)) (sym begun) asked))
