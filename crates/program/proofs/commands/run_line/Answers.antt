-- The lines of `serve` and of `drill`.
use Rattle.std.proofs.Common.{refl}
use Rattle.program.proofs.DrillLemmas.{drilled_line}
use Rattle.program.proofs.ServesLemmas.{served_line}
use Rattle.program.proofs.commands.run_line.Goals as goal

pub returns-in-Serve : goal.returns-in-Serve
returns-in-Serve g c =
    record { runs = served_line _ _ _ _ _ _ _ _ _ _ _ _ _ _ c.in-Serve.is c.into_vec-in-Serve.ensures c.status-in-Serve.ensures c.serve-end.ensures.served c.serve-end.ensures.cause c.serve-end.ensures.partly refl refl }

pub returns-in-Drill : goal.returns-in-Drill
returns-in-Drill g c =
    record { runs = drilled_line _ _ _ _ _ _ _ _ _ _ c.in-Drill.is c.status-in-Drill.ensures c.drill.ensures refl refl refl refl }
