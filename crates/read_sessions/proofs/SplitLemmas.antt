-- A split keeps what holds of every tree.
use Rattle.std.proofs.Common.{◌≡◌, ℕ, ◌<◌, length, sym, ap, ◌∙◌, subst}
use Rattle.split_tree.specs.declared.node.Cut.{Cut}
use Rattle.split_tree.specs.declared.node.Cut.TheVariants as cut
use Rattle.split_tree.specs.Nodes.{Nodes, node_of, cut_of, nodes_after, with_split, IsSplitTree}
use Rattle.split_tree.proofs.Halves.{IsSplitTree-split}
use Rattle.split_tree.proofs.Later.{opens}

pub IsSplitTree-cut : (old new : Nodes) (node left right : ℕ) (made : Cut) → IsSplitTree old → node < length old.list → cut_of old node ≡ cut.Made left right
    → made ≡ cut_of old node → new ≡ nodes_after old node made → IsSplitTree new
IsSplitTree-cut old new node left right made tree there can is after =
    let free = opens (node_of old node) (length old.list) left right can in
    let split : new ≡ with_split old node = after ∙ ap (nodes_after old node) (is ∙ can) in
    subst IsSplitTree (sym split) (IsSplitTree-split old node tree there free.rows free.room)
