-- The rows of the batches so far.
use Rattle.std.proofs.Common.{◌≡◌, ◌≤◌}
use Rattle.drill.specs.Rows.{rows_before}
use Rattle.drill.proofs.batches.rows_before.Given as goal

abbrev pub invariant-loop-before : goal.invariant-loop-before
invariant-loop-before l = (l.count ≡ rows_before l.writer l.before) × (l.before ≤ l.batch)
