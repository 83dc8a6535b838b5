-- The node has its children, which stand behind all nodes.
use Rattle.std.proofs.Common.{◌≡◌, ◌<◌, ◌≤◌, ◌+◌, length, sym, ap, subst, ◌∙◌}
use Rattle.split_tree.specs.declared.node.TheConstants.{MOST_NODES}
use Rattle.split_tree.specs.Intervals.{size}
use Rattle.split_tree.specs.Nodes.{Nodes, IsWithin, node_of}
use Rattle.split_tree.proofs.Halves.{kept, node_at, split_list}
use Rattle.split_tree.proofs.Later.{opens}
use Rattle.split_tree.proofs.tree.Tree.split.Goals as goal

pub invariant_of-self-2 : goal.invariant_of-self-2
invariant_of-self-2 c =
    let old : Nodes = record { at = c.self.inside.at; roots = c.self.inside.roots; list = c.self.inside.nodes.items } in
    let there : c.args.node < length old.list = subst (λ n. c.args.node < length n.list) (sym c.self.view_is) c.requires in
    let is : node_of old c.args.node ≡ c.index.result.now = node_at old c.args.node c.index.result.now there c.index.ensures in
    let within : IsWithin old.at c.index.result.now.interval = subst (λ n. IsWithin old.at n.interval) is (c.self.invariant.within c.args.node there) in
    let count : c.len.result ≡ length old.list = c.len.ensures ∙ c.self.inside.nodes.ok.0 in
    let made = opens c.index.result.now c.len.result c.in-Made.left c.in-Made.right (sym c.cut-cut.ensures ∙ c.in-Made.is) in
    kept old c.args.node c.push-2.new.self.items c.self.invariant there
    (subst (λ n. 2 ≤ size n.interval) (sym is) made.rows)
    (subst (λ n. n + 2 ≤ MOST_NODES) count made.room)
    (split_list old c.args.node c.in-Made.left c.in-Made.right c.index.result.now c.unsplit.result c.unsplit-2.result
    c.reserve.new.self.items c.push.new.self.items c.push-2.new.self.items within is (made.first ∙ count) (made.second ∙ ap (λ n. n + 1) count)
    c.in_ok-reserve.ensures.items c.unsplit.ensures c.unsplit-2.ensures c.in_ok-push.ensures.items c.in_ok-push-2.ensures.items)
