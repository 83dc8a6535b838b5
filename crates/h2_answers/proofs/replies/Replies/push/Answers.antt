use Rattle.std.proofs.Common.{◌≡◌, ◌+◌, ◌^◌, ◌≤◌, ◌<◌, length, arith}
use Rattle.h2_answers.proofs.ReplyLemmas.{AreReplies-push}
use Rattle.h2_answers.proofs.replies.Replies.push.Goals as goal

pub invariant_of-self-2 : goal.invariant_of-self-2
invariant_of-self-2 c =
    let len : length c.args.reply ≡ c.len-len.result = grind arith in
    let some : 0 < length c.args.reply = omega arith in
    let few : c.self.inside.waiting + length c.args.reply ≤ 2 ^ 62 = omega arith in
    rw (c.in_ok-push_back.ensures.items, c.len-len.ensures) (AreReplies-push c.self.inside.at c.self.inside.kept.items c.self.inside.waiting c.args.reply c.self.invariant some few)
