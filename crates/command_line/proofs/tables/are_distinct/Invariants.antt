use Rattle.std.proofs.Common.{◌≡◌, length}
use Rattle.command_line.specs.Tables.{are_distinct}
use Rattle.command_line.proofs.tables.are_distinct.Given as goal

abbrev pub invariant-loop-rest : goal.invariant-loop-rest
invariant-loop-rest l = are_distinct l.rest ≡ are_distinct l.tables

abbrev pub decreases-loop-rest : goal.decreases-loop-rest
decreases-loop-rest l = length l.rest
