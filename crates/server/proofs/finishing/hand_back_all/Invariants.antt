-- The lists so far were handed back.
use Rattle.std.proofs.Common.{flat_map}
use Rattle.server.proofs.HandLemmas.{Handing}
use Rattle.server.proofs.finishing.hand_back_all.Given as goal

abbrev pub invariant-loop-links : goal.invariant-loop-links
invariant-loop-links g l =
    (goal.iterator-loop-links g).can_next l.links-iterator × (goal.iterator-loop-links g).is_finite l.links-iterator
    × Handing (flat_map (λ links. links.items) l.fn.lists.items) (flat_map (λ links. links.items) l.links-iterator.rest.items)
    (g.D.Door.left l.fn.door) (g.D.Door.left l.door) (g.D.Door.handed l.fn.door) (g.D.Door.handed l.door)
    (g.D.Door.out l.fn.door) (g.D.Door.out l.door) (g.D.Door.faults l.fn.door) (g.D.Door.faults l.door)
