use Rattle.std.proofs.Common.{◌+◌, ◌≤◌}
use Rattle.std.specs.List.{concat}
use Rattle.std.specs.Vec.{vec_len, vec_capacity}
use Rattle.std.specs.VecDeque.Iter.{deque_iter_rest}
use Rattle.h2_answers.specs.Kept.{unwritten}
use Rattle.h2_answers.proofs.ReplyLemmas.{IsCopying}
use Rattle.h2_answers.proofs.replies.copy_front.Given as goal

abbrev pub invariant-loop-reply : goal.invariant-loop-reply
invariant-loop-reply l =
    (goal.iterator-loop-reply).can_next l.reply-iterator ×
    (goal.iterator-loop-reply).is_finite l.reply-iterator ×
    IsCopying l.n (concat (unwritten l.at l.kept.items)) l.fn.out.items l.left l.skip (deque_iter_rest l.reply-iterator) l.out.items ×
    (vec_len l.out + l.left ≤ vec_capacity l.out)
