-- The type that the stream was given so far.
use Rattle.std.proofs.Common.{◌≡◌, take}
use Rattle.table_model.specs.Facts.{kind_of}
use Rattle.table_model.proofs.walks.kind.Given as goal

abbrev pub invariant-loop-entry : goal.invariant-loop-entry
invariant-loop-entry l = l.kind ≡ kind_of (take l.entry-index l.entries) l.stream
