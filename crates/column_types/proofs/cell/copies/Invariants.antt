-- The cells copied so far and those to come are all cells.
use Rattle.std.proofs.Common.{◌≡◌, ◌++◌, drop}
use Rattle.column_types.proofs.cell.copies.Given as goal

abbrev pub invariant-loop-cell : goal.invariant-loop-cell
invariant-loop-cell l = l.copied.items ++ drop l.cell-index l.cells ≡ l.cells
