-- The nodes that are still open, and those behind them, are a cut. Those behind aren't split.
use Rattle.std.proofs.Common.{◌≡◌, ◌++◌, reverse, sum_by, None}
use Rattle.std.specs.List.{AllByRecursion}
use Rattle.split_tree.specs.Nodes.{children_of}
use Rattle.split_tree.specs.Cuts.{IsCut}
use Rattle.split_tree.proofs.LeafLemmas.{weight}
use Rattle.split_tree.proofs.tree.Tree.leaves.Given as goal

abbrev pub invariant-loop-node : goal.invariant-loop-node
invariant-loop-node l =
    IsCut l.self (l.open.items ++ reverse l.behind.items)
    × AllByRecursion (λ number. children_of l.self number ≡ None) (reverse l.behind.items)

abbrev pub decreases-loop-node : goal.decreases-loop-node
decreases-loop-node l = sum_by (weight l.self) l.open.items
