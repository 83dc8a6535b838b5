-- Some passes were split.
use Rattle.server.proofs.SplitLemmas.{Splitting}
use Rattle.server.proofs.splits.split_all.Given as goal

abbrev pub invariant-loop-pass : goal.invariant-loop-pass
invariant-loop-pass g l =
    (goal.iterator-loop-pass g).can_next l.pass-iterator × (goal.iterator-loop-pass g).is_finite l.pass-iterator
    × Splitting l.tables l.fn.passes l.pass-iterator.rest.items l.kept.items l.new.items
