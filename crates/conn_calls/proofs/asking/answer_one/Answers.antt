-- What a call gave is told, and given on its stream.
use Rattle.std.proofs.Common.{◌≡◌, ℤ, pos, ◌≤ℤ◌, [], ◌∷◌, sym, subst, rules}
use mir.Syntax.{w64}
use mir.Val.{to_z, of_z}
use Rattle.links.specs.Told.{GoesOn}
use Rattle.links.specs.declared.clocks.TheConstants.{LATEST_READING}
use Rattle.open_tables.specs.Tables.{specs_of}
use Rattle.conn_requests.specs.Names.{named_after}
use Rattle.conn_requests.specs.Decided.{item_for}
use Rattle.conn_calls.specs.Dealing.{dealing_of}
use Rattle.conn_calls.specs.Answering.{told_by}
use Rattle.conn_calls.proofs.AskingLemmas.{told-so, told-lost, goes-named, one-answer}
use Rattle.conn_calls.proofs.asking.answer_one.Goals as goal

pub returns-clause-asks : goal.returns-clause-asks
returns-clause-asks g c =
    let rows = c.answer_ask-passes.result.1 in
    let same : to_z w64 (of_z w64 c.now-now.result) ≡ c.now-now.result = search rules in
    let Told : ℤ → Type 0 = λ z. GoesOn (g.C.Clock.readings c.args.clock.now) (z ∷ []) (g.C.Clock.readings c.now-now.new.self) in
    one-answer (specs_of c.args.service.now.tables.now) (item_for c.args.id c.args.append.now c.args.ask.now) c.args.begun c.args.passes c.answer_ask-passes.result.0 (g.C.Clock.readings c.args.clock.now) (g.C.Clock.readings c.now-now.new.self) (dealing_of c.args.conn.now) (dealing_of c.give_one-given.new.conn) (to_z w64 (of_z w64 c.now-now.result)) (told_by rows) c.give_one-given.result
    (told-so rows _ c.answer_ask-passes.ensures.answers) (told-lost rows _ c.answer_ask-passes.ensures.loses)
    (subst Told (sym same) c.now-now.ensures.told) (subst (λ z. pos 0 ≤ℤ z) (sym same) c.now-now.ensures.least) (subst (λ z. z ≤ℤ LATEST_READING) (sym same) c.now-now.ensures.greatest)
    (c.give_one-given.ensures c.args.ask.now c.answer_ask-passes.ensures.bodies)

pub returns-clause-named : goal.returns-clause-named
returns-clause-named g c =
    goes-named c.give_one-given.result c.answer_ask-passes.result.1 (c.answer_ask-passes.new.append ≡ named_after c.args.append.now c.args.ask.now) c.args.id c.args.ask.now c.args.begun (dealing_of c.args.conn.now) (dealing_of c.give_one-given.new.conn)
    (c.give_one-given.ensures c.args.ask.now c.answer_ask-passes.ensures.bodies) c.answer_ask-passes.ensures.named
