-- The parts that were taken out were read to their ends.
use Rattle.std.proofs.Common.{List, [], length, reverse}
use Rattle.turn_table.specs.View.{IsOf}
use Rattle.drill.specs.declared.moves.Move.{Move}
use Rattle.drill.specs.Drains.{Asked, Went}
use Rattle.drill.specs.Parts.{Stands}
use Rattle.drill.specs.Steps.{ReadsAll}
use Rattle.drill.proofs.drain_ends.end_parts.Given as goal

abbrev pub invariant-loop-part : goal.invariant-loop-part
invariant-loop-part g l = record {
  theirs : IsOf l.turn l.pass;
  went : Went l.session l.fn.pass l.pass;
  asked : Asked l.session [] l.fn.pass l.pass;
  reads : (moves : List Move) → Stands l.fn.pass.seen l.session moves l.fn.parts.items → ReadsAll l.pass.seen l.session moves l.fn.parts.items (reverse l.rest.items) l.rows;
}

abbrev pub decreases-loop-part : goal.decreases-loop-part
decreases-loop-part g l = length l.rest.items
