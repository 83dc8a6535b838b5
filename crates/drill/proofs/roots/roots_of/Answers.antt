-- A session without a first node isn't there.
use Rattle.std.proofs.Common.{subst}
use Rattle.table_engine.specs.declared.looks.Key.{Key}
use Rattle.table_engine.specs.Looks.{Looks}
use Rattle.drill.proofs.RootLemmas.{no_roots}
use Rattle.drill.proofs.roots.roots_of.Goals as goal

pub returns-in-None : goal.returns-in-None
returns-in-None c =
    let key : Key = record { session = c.args.session; node = 0 } in
    let none = subst (Looks c.args.table.now.columns c.args.table.now.entries key) c.in-None.is c.in_ok-held.ensures in
    no_roots c.args.table.now.columns c.args.table.now.entries c.args.session c.requires none
