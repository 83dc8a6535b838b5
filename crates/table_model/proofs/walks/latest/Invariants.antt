-- The greatest moment so far.
use Rattle.std.proofs.Common.{◌≡◌, take}
use Rattle.table_model.specs.History.{moment_of}
use Rattle.table_model.proofs.walks.latest.Given as goal

abbrev pub invariant-loop-entry : goal.invariant-loop-entry
invariant-loop-entry l = l.latest ≡ moment_of (take l.entry-index l.entries)
