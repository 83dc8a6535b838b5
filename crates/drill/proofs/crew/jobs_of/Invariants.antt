-- All passes so far are the turn's.
use Rattle.std.proofs.Common.{◌≤◌}
use Rattle.std.specs.Prelude.{All}
use Rattle.turn_table.specs.View.{IsOf}
use Rattle.drill.specs.Table.{IsDrill}
use Rattle.drill.proofs.crew.jobs_of.Given as goal

abbrev pub invariant-loop-number : goal.invariant-loop-number
invariant-loop-number g l = IsOf l.turn l.kept × All (λ job. IsDrill l.turn × (job.n ≤ 10000) × IsOf l.turn job.pass) l.jobs.items
