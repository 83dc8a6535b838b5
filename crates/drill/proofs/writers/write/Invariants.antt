-- The pass is held, and the rows of the batches so far are counted.
use Rattle.std.proofs.Common.{◌≡◌, ◌≤◌}
use Rattle.drill.specs.Rows.{rows_before}
use Rattle.drill.specs.Table.{Holds}
use Rattle.drill.proofs.writers.write.Given as goal

abbrev pub invariant-loop-batch : goal.invariant-loop-batch
invariant-loop-batch g l = Holds l.turn l.held × (l.first ≡ rows_before l.writer l.batch) × (l.batch ≤ l.n)
