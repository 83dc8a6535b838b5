-- The slices so far were added.
use Rattle.std.proofs.Common.{◌≡◌, ◌++◌}
use Rattle.std.specs.VecDeque.Iter.{deque_iter_rest}
use Rattle.table_engine.proofs.waiting.share_all.Given as goal

abbrev pub invariant-loop-slice : goal.invariant-loop-slice
invariant-loop-slice l =
    (goal.iterator-loop-slice).can_next l.slice-iterator ×
    (goal.iterator-loop-slice).is_finite l.slice-iterator ×
    (l.moved.items ++ deque_iter_rest l.slice-iterator ≡ l.fn.moved.items ++ l.fn.slices.items)
