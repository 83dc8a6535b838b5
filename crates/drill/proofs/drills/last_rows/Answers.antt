-- The rows of the roots, where none were drained.
use Rattle.std.proofs.Common.{subst}
use Rattle.drill.specs.Begins.{Drawn}
use Rattle.drill.proofs.LastLemmas.{roots_ok}
use Rattle.drill.proofs.drills.last_rows.Goals as goal

pub returns-in-None : goal.returns-in-None
returns-in-None c =
    let there = subst (Drawn c.args.table.now.entries c.args.session) c.in-None.is c.requires.drawn in
    roots_ok c.args.table.now.entries c.args.session c.read_roots.result there c.read_roots.ensures
