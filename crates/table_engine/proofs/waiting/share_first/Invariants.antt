-- The rows so far, and those that are left, are the first ones.
use Rattle.std.proofs.Common.{◌≡◌, ◌++◌, take}
use Rattle.std.specs.VecDeque.Iter.{deque_iter_rest}
use Rattle.row_groups.specs.Places.{joined}
use Rattle.table_engine.proofs.waiting.share_first.Given as goal

abbrev pub invariant-loop-slice : goal.invariant-loop-slice
invariant-loop-slice l =
    (goal.iterator-loop-slice).can_next l.slice-iterator ×
    (goal.iterator-loop-slice).is_finite l.slice-iterator ×
    (joined l.moved.items ++ take l.left (joined (deque_iter_rest l.slice-iterator)) ≡ joined l.fn.moved.items ++ take l.fn.count (joined l.fn.slices.items))
