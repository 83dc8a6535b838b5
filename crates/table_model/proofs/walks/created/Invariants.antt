-- When the stream was created so far.
use Rattle.std.proofs.Common.{◌≡◌, take}
use Rattle.table_model.specs.Facts.{created_of}
use Rattle.table_model.proofs.walks.created.Given as goal

abbrev pub invariant-loop-entry : goal.invariant-loop-entry
invariant-loop-entry l = l.created ≡ created_of (take l.entry-index l.entries) l.stream
