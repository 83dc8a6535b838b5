-- The roots below i are there.
use Rattle.std.proofs.Common.{◌≡◌, ◌≤◌, map}
use Rattle.std.specs.List.{range_with_len}
use Rattle.split_tree.specs.Intervals.{root}
use Rattle.split_tree.specs.Nodes.{unsplit}
use Rattle.split_tree.proofs.tree.root_nodes.Given as goal

abbrev pub invariant-loop-i : goal.invariant-loop-i
invariant-loop-i l = (l.nodes.items ≡ map (λ i. unsplit (root l.at l.roots i)) (range_with_len 0 l.i)) × (l.i ≤ l.roots)
