-- The entries of the caller so far.
use Rattle.std.proofs.Common.{◌≡◌, take}
use Rattle.table_model.specs.History.{entries_by}
use Rattle.table_model.proofs.walks.entries_by.Given as goal

abbrev pub invariant-loop-entry : goal.invariant-loop-entry
invariant-loop-entry l = l.count ≡ entries_by l.caller (take l.entry-index l.entries)
