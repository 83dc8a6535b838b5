-- By what was given.
use Rattle.std.proofs.Common.{subst}
use Rattle.std.specs.Prelude.{◌≡◌}
use Rattle.h2_record.specs.Record.{Record}
use Rattle.h2_record.specs.Faults.{first_fault_of}
use Rattle.conn_deferral.specs.Deferred.{Deals}
use Rattle.conn_calls.specs.Dealing.{Dealt, dealing_of}
use Rattle.conn_calls.proofs.DealingLemmas.{fault-in}
use Rattle.conn_calls.proofs.dealing.Dealing.first_fault.Goals as goal

pub returns : goal.returns
returns c =
    let S : Dealt → Type 0 = λ d. (r : Record) → Deals (dealing_of d) r → c.first_fault.result ≡ first_fault_of r in
    subst S c.self.view_is (fault-in c.self.inside.conn c.self.inside.bodies.entries c.first_fault.result c.first_fault.ensures)
