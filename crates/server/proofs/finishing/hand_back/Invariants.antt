-- The links so far were handed back.
use Rattle.server.proofs.HandLemmas.{Handing}
use Rattle.server.proofs.finishing.hand_back.Given as goal

abbrev pub invariant-loop-link : goal.invariant-loop-link
invariant-loop-link g l =
    (goal.iterator-loop-link g).can_next l.link-iterator × (goal.iterator-loop-link g).is_finite l.link-iterator
    × Handing l.fn.links.items l.link-iterator.rest.items (g.D.Door.left l.fn.door) (g.D.Door.left l.door) (g.D.Door.handed l.fn.door) (g.D.Door.handed l.door)
    (g.D.Door.out l.fn.door) (g.D.Door.out l.door) (g.D.Door.faults l.fn.door) (g.D.Door.faults l.door)
