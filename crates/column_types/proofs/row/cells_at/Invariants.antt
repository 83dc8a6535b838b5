-- The cells copied so far and those of the numbers to come are those of all numbers.
use Rattle.std.proofs.Common.{◌≡◌, ◌++◌, drop}
use Rattle.column_types.specs.Fields.{projected}
use Rattle.column_types.proofs.row.cells_at.Given as goal

abbrev pub invariant-loop-number : goal.invariant-loop-number
invariant-loop-number l = l.cells.items ++ projected (drop l.number-index l.numbers) l.row ≡ projected l.numbers l.row
