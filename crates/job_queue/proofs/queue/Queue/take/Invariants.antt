-- No job was taken yet.
use Rattle.std.proofs.Common.{◌≡◌}
use Rattle.job_queue.specs.Hands.{IsOf, known}
use Rattle.job_queue.proofs.queue.Queue.take.Given as goal

abbrev pub invariant-loop : goal.invariant-loop
invariant-loop g l = IsOf l.self l.hand × (known l.hand ≡ known l.fn.hand)
