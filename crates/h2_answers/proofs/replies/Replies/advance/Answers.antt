use Rattle.std.proofs.Common.{◌≤◌, length}
use Rattle.std.specs.List.{concat}
use Rattle.h2_answers.specs.Kept.{unwritten}
use Rattle.h2_answers.proofs.ReplyLemmas.{IsDropped, AreReplies-dropped}
use Rattle.h2_answers.proofs.replies.Replies.advance.Goals as goal

pub invariant_of-self : goal.invariant_of-self
invariant_of-self c =
    let within : c.args.n ≤ length (concat (unwritten c.self.inside.at c.self.inside.kept.items)) = rw c.self.view_is c.requires in
    let dropped : IsDropped c.args.n (unwritten c.self.inside.at c.self.inside.kept.items) c.drop_front.new.at c.drop_front.new.kept.items = record {
      dropped = c.drop_front.ensures.dropped;
      each = c.drop_front.ensures.each;
      none = c.drop_front.ensures.none;
    } in
    AreReplies-dropped c.self.invariant dropped within
