-- All passes that are left are the turn's.
use Rattle.std.specs.Prelude.{All}
use Rattle.turn_table.specs.View.{IsOf}
use Rattle.drill.proofs.crew.join_all.Given as goal

abbrev pub invariant-loop-done : goal.invariant-loop-done
invariant-loop-done l =
    (goal.iterator-loop-done).can_next l.done-iterator × (goal.iterator-loop-done).is_finite l.done-iterator
    × IsOf l.turn l.pass × All (λ done. IsOf l.turn done.pass) l.done-iterator.rest.items
