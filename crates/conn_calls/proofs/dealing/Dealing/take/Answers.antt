-- By what the connection tells of what was given.
use Rattle.std.proofs.Common.{ap, subst, ◌∷◌}
use Rattle.std.specs.Prelude.{◌≡◌, IfOk, OnOk, option_to_list}
use Rattle.h2_record.specs.Record.{Record, In}
use Rattle.h2_record.specs.Events.{events_of}
use Rattle.conn_deferral.specs.Deferred.{Deals}
use Rattle.conn_calls.specs.Dealing.{Dealt, dealing_of}
use Rattle.conn_calls.proofs.DealingLemmas.{deals-in, events-in}
use Rattle.conn_calls.proofs.dealing.Dealing.take.Goals as goal

pub returns-clause-stands : goal.returns-clause-stands
returns-clause-stands c =
    let new : Dealt = record { conn = c.take.new.self; bodies = c.self.inside.bodies.entries } in
    let S : Dealt → Type 0 = λ d. OnOk c.take.result ((r : Record) → Deals (dealing_of d) r → Deals (dealing_of new) (In c.args.frame ∷ r)) in
    subst S c.self.view_is (deals-in c.self.inside.conn c.take.new.self c.self.inside.bodies.entries c.args.frame c.take.result c.take.ensures.stands)

pub returns-clause-events : goal.returns-clause-events
returns-clause-events c =
    let S : Dealt → Type 0 = λ d. IfOk c.take.result (λ told. (r : Record) → Deals (dealing_of d) r → option_to_list told ≡ events_of r c.args.frame) in
    subst S c.self.view_is (events-in c.self.inside.conn c.self.inside.bodies.entries c.args.frame c.take.result c.take.ensures.events)

pub returns-clause-bodies : goal.returns-clause-bodies
returns-clause-bodies c = ap (λ (d : Dealt). d.bodies) c.self.view_is
