-- Where all things that are asked stand to be decided, what isn't asked yet stands so.
use Rattle.std.proofs.Common.{◌≡◌, Option, drop}
use Rattle.open_tables.specs.Tables.{AreTheirs, specs_of}
use Rattle.conn_requests.specs.Body.{Body}
use Rattle.call_plans.specs.Plans.{plan}
use Rattle.conn_calls.specs.Answering.{Start, Answering, rest}
use Rattle.conn_calls.specs.Dealing.{dealing_of}
use Rattle.conn_calls.proofs.asking.answer_all.Given as goal

abbrev pub invariant-loop-ask : goal.invariant-loop-ask
invariant-loop-ask g l = record {
  theirs : AreTheirs l.service.tables.now l.passes;
  body : l.call.body ≡ l.initial.call.body;
  asks : (s : Start) (body : Option Body) → Answering (plan (specs_of l.service.tables.now)) s l.id l.initial.passes (g.C.Clock.readings l.initial.clock) (dealing_of l.initial.conn) l.initial.call.begun (rest l.id l.initial.append body l.asks)
      → Answering (plan (specs_of l.service.tables.now)) s l.id l.passes (g.C.Clock.readings l.clock) (dealing_of l.conn) l.call.begun (rest l.id l.append body (drop l.ask-index l.asks));
}
