use Rattle.std.proofs.Common.{arith}
use Rattle.h2_answers.proofs.ReplyLemmas.{copied-reply}
use Rattle.h2_answers.proofs.replies.copy_front.Goals as goal

pub loop-reply-preserved : goal.loop-reply-preserved
loop-reply-preserved c =
    let past = c.if-left-rest.false in
    let same = c.bytes.ensures in
    let copied = c.unwrap-in-loop-reply.ensures in
    let items = rw copied at c.extend_from_slice-in-loop-reply.ensures.items in
    let len = rw copied at c.extend_from_slice-in-loop-reply.ensures.len in (
      tt,
      tt,
      rw (items, same) (copied-reply c.loop-reply.invariant.2 c.in-Some.ensures.steps (rw same at past)),
      omega (arith, past, len, c.loop-reply.invariant.3, c.extend_from_slice-in-loop-reply.ensures.capacity),
    )
