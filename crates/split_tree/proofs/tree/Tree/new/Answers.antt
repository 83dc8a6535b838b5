-- Roots are a tree.
use Rattle.split_tree.proofs.Roots.{IsSplitTree-made}
use Rattle.split_tree.proofs.tree.Tree.new.Goals as goal

pub invariant_of-result : goal.invariant_of-result
invariant_of-result c =
    IsSplitTree-made c.args.at c.roots_of-roots.result c.in_ok-nodes.nodes.items c.roots_of-roots.ensures.some c.roots_of-roots.ensures.few c.in_ok-nodes.ensures
