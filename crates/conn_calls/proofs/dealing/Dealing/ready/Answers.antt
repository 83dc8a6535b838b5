-- By what the search told.
use Rattle.std.proofs.Common.{subst}
use Rattle.std.specs.Prelude.{IfSome}
use Rattle.conn_calls.specs.Dealing.{Dealt, NoneReady}
use Rattle.conn_calls.specs.Ready.{MayPoll}
use Rattle.conn_calls.proofs.PollingLemmas.{none-ready}
use Rattle.conn_calls.proofs.dealing.Dealing.ready.Goals as goal

pub returns-clause-none : goal.returns-clause-none
returns-clause-none c is = subst NoneReady c.self.view_is (none-ready (record { conn = c.self.inside.conn; bodies = c.self.inside.bodies.entries }) (c.first_ready.ensures.none is))

pub returns-clause-some : goal.returns-clause-some
returns-clause-some c =
    let S : Dealt → Type 0 = λ d. IfSome c.first_ready.result (λ id. MayPoll d.conn id) in
    subst S c.self.view_is c.first_ready.ensures.some
