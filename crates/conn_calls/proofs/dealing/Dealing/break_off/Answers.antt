-- Both records have the broken rule.
use Rattle.std.proofs.Common.{subst, ◌∷◌}
use Rattle.std.specs.Prelude.{OnOk}
use Rattle.h2_record.specs.Record.{Record, Broken}
use Rattle.conn_deferral.specs.Deferred.{Deals}
use Rattle.conn_calls.specs.Dealing.{Dealt, dealing_of}
use Rattle.conn_calls.proofs.DealingLemmas.{broken-off}
use Rattle.conn_calls.proofs.dealing.Dealing.break_off.Goals as goal

pub returns : goal.returns
returns c =
    let new : Dealt = record { conn = c.fault.new.self; bodies = c.self.inside.bodies.entries } in
    let S : Dealt → Type 0 = λ d. OnOk c.fault.result ((r : Record) → Deals (dealing_of d) r → Deals (dealing_of new) (Broken c.args.fault ∷ r)) in
    subst S c.self.view_is (broken-off c.self.inside.conn c.fault.new.self c.self.inside.bodies.entries c.args.fault c.fault.result c.fault.ensures.stands)
