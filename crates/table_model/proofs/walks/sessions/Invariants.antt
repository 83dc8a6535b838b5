-- The sessions begun so far.
use Rattle.std.proofs.Common.{◌≡◌, take}
use Rattle.table_model.specs.History.{sessions_of}
use Rattle.table_model.proofs.walks.sessions.Given as goal

abbrev pub invariant-loop-entry : goal.invariant-loop-entry
invariant-loop-entry l = l.count ≡ sessions_of (take l.entry-index l.entries)
