-- Some passes were joined.
use Rattle.server.proofs.SplitLemmas.{Joining}
use Rattle.server.proofs.splits.join_all.Given as goal

abbrev pub invariant-loop-mine : goal.invariant-loop-mine
invariant-loop-mine l =
    (goal.iterator-loop-mine).can_next l.mine-iterator × (goal.iterator-loop-mine).is_finite l.mine-iterator
    × Joining l.tables l.fn.keep l.fn.give l.mine-iterator.a.rest.items l.mine-iterator.b.rest.items l.joined.items
