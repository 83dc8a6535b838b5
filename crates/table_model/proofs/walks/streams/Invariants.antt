-- The streams created so far.
use Rattle.std.proofs.Common.{◌≡◌, take}
use Rattle.table_model.specs.History.{streams_of}
use Rattle.table_model.proofs.walks.streams.Given as goal

abbrev pub invariant-loop-entry : goal.invariant-loop-entry
invariant-loop-entry l = l.count ≡ streams_of (take l.entry-index l.entries)
