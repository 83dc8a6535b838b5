-- The links so far were put.
use Rattle.std.proofs.Common.{◌≡◌, true}
use Rattle.job_queue.specs.Hands.{IsOf, known}
use Rattle.server.specs.Asks.{HasAsked}
use Rattle.server.proofs.asking.put_links.Given as goal

abbrev pub invariant-loop-number : goal.invariant-loop-number
invariant-loop-number g l =
    IsOf l.queue l.hand × ((known l.hand).parts ≡ (known l.fn.hand).parts) × ((known l.hand).puts ≡ true) × ((known l.hand).taken ≡ (known l.fn.hand).taken)
    × (g.D.Door.faults l.door ≡ g.D.Door.faults l.fn.door)
    × HasAsked (λ job. job.link)
    (record { left = g.D.Door.left l.fn.door; handed = g.D.Door.handed l.fn.door; out = g.D.Door.out l.fn.door })
    (record { left = g.D.Door.left l.door; handed = g.D.Door.handed l.door; out = g.D.Door.out l.door })
    (known l.fn.hand).put (known l.hand).put l.number
