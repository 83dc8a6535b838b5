-- The cut stands to which the moves so far lead.
use Rattle.std.proofs.Common.{take}
use Rattle.turn_table.specs.View.{IsOf}
use Rattle.drill.specs.Drains.{Asked, Went}
use Rattle.drill.specs.Parts.{Stands}
use Rattle.drill.proofs.drains.follow.Given as goal

abbrev pub invariant-loop-step : goal.invariant-loop-step
invariant-loop-step g l = record {
  theirs : IsOf l.turn l.pass;
  went : Went l.session l.fn.pass l.pass;
  asked : Asked l.session (take l.step-index l.moves) l.fn.pass l.pass;
  stands : Stands l.pass.seen l.session (take l.step-index l.moves) l.parts.items;
}
