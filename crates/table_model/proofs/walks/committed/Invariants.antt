-- When the stream was committed so far.
use Rattle.std.proofs.Common.{◌≡◌, take}
use Rattle.table_model.specs.Facts.{committed_of}
use Rattle.table_model.proofs.walks.committed.Given as goal

abbrev pub invariant-loop-entry : goal.invariant-loop-entry
invariant-loop-entry l = l.committed ≡ committed_of (take l.entry-index l.entries) l.stream
