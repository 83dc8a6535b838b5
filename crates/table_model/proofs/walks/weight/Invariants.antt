-- The sizes of the rows so far.
use Rattle.std.proofs.Common.{◌≡◌, take}
use Rattle.table_model.specs.Facts.{weight_of}
use Rattle.table_model.proofs.walks.weight.Given as goal

abbrev pub invariant-loop-entry : goal.invariant-loop-entry
invariant-loop-entry l = l.weight ≡ weight_of l.columns (take l.entry-index l.entries)
