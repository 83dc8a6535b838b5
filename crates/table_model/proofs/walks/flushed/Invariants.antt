-- How many rows of the stream were flushed so far.
use Rattle.std.proofs.Common.{◌≡◌, take}
use Rattle.table_model.specs.Facts.{flushed_of}
use Rattle.table_model.proofs.walks.flushed.Given as goal

abbrev pub invariant-loop-entry : goal.invariant-loop-entry
invariant-loop-entry l = l.flushed ≡ flushed_of (take l.entry-index l.entries) l.stream
