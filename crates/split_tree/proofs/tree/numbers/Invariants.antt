-- The numbers below i are there.
use Rattle.std.proofs.Common.{◌≡◌, ◌≤◌}
use Rattle.std.specs.List.{range_with_len}
use Rattle.split_tree.proofs.tree.numbers.Given as goal

abbrev pub invariant-loop-i : goal.invariant-loop-i
invariant-loop-i l = (l.all.items ≡ range_with_len 0 l.i) × (l.i ≤ l.n)
