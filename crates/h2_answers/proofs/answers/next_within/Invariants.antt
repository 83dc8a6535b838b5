use Rattle.h2_answers.specs.Bounds.{bounds_of}
use Rattle.h2_answers.specs.Search.{NoneWithin}
use Rattle.h2_answers.proofs.answers.next_within.Given as goal

abbrev pub invariant-loop-place : goal.invariant-loop-place
invariant-loop-place g l = NoneWithin (bounds_of (g.L.Limits.windows l.limits) (g.L.Limits.holds l.limits) l.connection l.first l.room) l.queues.entries l.from l.place
