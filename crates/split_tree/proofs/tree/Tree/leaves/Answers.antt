-- An open node is put behind, or opened.
use Rattle.std.proofs.Common.{◌<◌, length, ap, subst, sym, ◌∙◌, rules, arith}
use Rattle.std.proofs.lemmas.Grind.{common_steps}
use Rattle.split_tree.specs.Nodes.{IsSplitTree}
use Rattle.split_tree.proofs.CutLemmas.{in_cut_there}
use Rattle.split_tree.proofs.LeafLemmas.{cut-start, cut-pop, cut-open, children_at, leaves-done, nothing_left, weighs-less}
use Rattle.split_tree.proofs.tree.Tree.leaves.Goals as goal

pub loop-node-init : goal.loop-node-init
loop-node-init c = cut-start c.args.self.now c.self.inside.roots c.in_ok-open.open.items c.new-behind.result.items c.in_ok-open.ensures (ap (λ n. n.roots) c.self.view_is) c.new-behind.ensures.items

pub index-requires : goal.index-requires
index-requires c =
    let cut = cut-pop c.args.self.now c.loop-node.open.items c.pop.new.self.items c.loop-node.behind.items c.in-Some.node c.in-Some.ensures.items c.loop-node.invariant.0 in
    let tree = subst IsSplitTree c.self.view_is c.self.invariant in
    let below = in_cut_there c.args.self.now c.pop.new.self.items c.in-Some.node _ tree cut in
    let here : c.in-Some.node < length c.self.inside.nodes.items = subst (λ n. c.in-Some.node < length n.list) (sym c.self.view_is) below in
    first_of (search (rules, here), grind (arith, common_steps))

pub loop-node-smaller-in-Continue-branch-3 : goal.loop-node-smaller-in-Continue-branch-3
loop-node-smaller-in-Continue-branch-3 c =
    let tree = subst IsSplitTree c.self.view_is c.self.invariant in
    let cut = cut-pop c.args.self.now c.loop-node.open.items c.pop.new.self.items c.loop-node.behind.items c.in-Some.node c.in-Some.ensures.items c.loop-node.invariant.0 in
    let below = in_cut_there c.args.self.now c.pop.new.self.items c.in-Some.node _ tree cut in
    let is = children_at c.args.self.now c.self.inside.nodes.items c.in-Some.node c.index.result.now (ap (λ n. n.list) c.self.view_is) below c.index.ensures ∙ c.in-Some-children.is in
    weighs-less c.args.self.now c.loop-node.open.items c.pop.new.self.items c.push.new.self.items c.push-in-Some-children.new.self.items
    c.in-Some.node c.in-Some-children.left c.in-Some-children.right tree is
    c.in-Some.ensures.items c.in_ok-push-in-Some-children.ensures.items c.in_ok-push-in-Some-children-2.ensures.items

pub loop-node-preserved-in-Continue-branch-3 : goal.loop-node-preserved-in-Continue-branch-3
loop-node-preserved-in-Continue-branch-3 c =
    let tree = subst IsSplitTree c.self.view_is c.self.invariant in
    let cut = cut-pop c.args.self.now c.loop-node.open.items c.pop.new.self.items c.loop-node.behind.items c.in-Some.node c.in-Some.ensures.items c.loop-node.invariant.0 in
    let below = in_cut_there c.args.self.now c.pop.new.self.items c.in-Some.node _ tree cut in
    let is = children_at c.args.self.now c.self.inside.nodes.items c.in-Some.node c.index.result.now (ap (λ n. n.list) c.self.view_is) below c.index.ensures ∙ c.in-Some-children.is in (
      cut-open c.args.self.now c.pop.new.self.items c.push.new.self.items c.push-in-Some-children.new.self.items c.loop-node.behind.items
          c.in-Some.node c.in-Some-children.left c.in-Some-children.right is
          c.in_ok-push-in-Some-children.ensures.items c.in_ok-push-in-Some-children-2.ensures.items cut,
      c.loop-node.invariant.1,
    )

pub returns : goal.returns
returns c =
    let tree = subst IsSplitTree c.self.view_is c.self.invariant in
    let none = nothing_left _ c.loop-node.open.items c.loop-node.open.ok.0 c.in_default.ensures.variant.1 in
    leaves-done c.args.self.now c.loop-node.open.items c.loop-node.behind.items c.reverse.new.self.items tree none c.reverse.ensures.items c.loop-node.invariant.0 c.loop-node.invariant.1
