-- What is put together so far, under all that is left above it, is the whole.
use Rattle.std.proofs.Common.{◌≡◌, vec_len}
use Rattle.column_types.specs.Above.{under}
use Rattle.column_types.proofs.predicate.rebuilt.Given as goal

abbrev pub invariant-loop-node : goal.invariant-loop-node
invariant-loop-node l = under l.above.items l.pred ≡ under l.fn.above.items l.fn.leaf

abbrev pub decreases-loop-node : goal.decreases-loop-node
decreases-loop-node l = vec_len l.above
