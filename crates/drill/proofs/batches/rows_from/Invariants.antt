-- The rows so far.
use Rattle.std.proofs.Common.{◌≡◌, ◌≤◌, map}
use Rattle.std.specs.List.{range_with_len}
use Rattle.drill.specs.Rows.{row_of}
use Rattle.drill.proofs.batches.rows_from.Given as goal

abbrev pub invariant-loop-place : goal.invariant-loop-place
invariant-loop-place l = (l.rows.items ≡ map (row_of l.writer) (range_with_len l.first l.place)) × (l.place ≤ l.count)
