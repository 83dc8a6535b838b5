-- The rows of the streams so far.
use Rattle.std.proofs.Common.{◌≡◌, take}
use Rattle.std.specs.Prelude.{sum_by}
use Rattle.table_model.specs.Content.{end_of}
use Rattle.table_model.proofs.visible_walks.ends.Given as goal

abbrev pub invariant-loop-stream : goal.invariant-loop-stream
invariant-loop-stream l = l.count ≡ sum_by (end_of l.before) (take l.stream-index l.streams)
