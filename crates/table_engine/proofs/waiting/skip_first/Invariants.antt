-- The rows behind those that are left are those behind the first ones.
use Rattle.std.proofs.Common.{◌≡◌, length, drop}
use Rattle.row_groups.specs.Places.{joined}
use Rattle.table_engine.proofs.waiting.skip_first.Given as goal

abbrev pub invariant-loop-first : goal.invariant-loop-first
invariant-loop-first l = drop l.left (joined l.slices.items) ≡ drop l.fn.count (joined l.fn.slices.items)

abbrev pub decreases-loop-first : goal.decreases-loop-first
decreases-loop-first l = length l.slices.items
