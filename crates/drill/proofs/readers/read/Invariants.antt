-- The pass is held.
use Rattle.drill.specs.Table.{Holds}
use Rattle.drill.proofs.readers.read.Given as goal

abbrev pub invariant-loop : goal.invariant-loop
invariant-loop g l = Holds l.turn l.held
