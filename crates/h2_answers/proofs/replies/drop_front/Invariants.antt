use Rattle.std.specs.VecDeque.{deque_len}
use Rattle.h2_answers.specs.Kept.{unwritten}
use Rattle.h2_answers.proofs.ReplyLemmas.{IsDropping}
use Rattle.h2_answers.proofs.replies.drop_front.Given as goal

abbrev pub invariant-loop-first : goal.invariant-loop-first
invariant-loop-first l = IsDropping l.n (unwritten l.fn.at l.fn.kept.items) l.left l.at l.kept.items

abbrev pub decreases-loop-first : goal.decreases-loop-first
decreases-loop-first l = deque_len l.kept
