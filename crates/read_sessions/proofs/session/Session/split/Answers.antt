-- Two nodes more leave a tree.
use Rattle.std.proofs.Common.{◌<◌, length, sym, ap, ◌∙◌, subst}
use Rattle.split_tree.specs.Nodes.{cut_of}
use Rattle.read_sessions.proofs.SplitLemmas.{IsSplitTree-cut}
use Rattle.read_sessions.proofs.session.Session.split.Goals as goal

pub invariant_of-self-2 : goal.invariant_of-self-2
invariant_of-self-2 c =
    let there : c.args.node < length c.self.inside.tree.list = subst (λ s. c.args.node < length s.nodes.list) (sym c.self.view_is) c.requires.there in
    IsSplitTree-cut c.self.inside.tree c.split.new.self c.args.node c.requires.left c.requires.right c.in_ok-split.field-0 c.self.invariant there
    (ap (λ s. cut_of s.nodes c.args.node) c.self.view_is ∙ c.requires.made) c.in_ok-split.ensures.0 c.in_ok-split.ensures.1
