-- The slices of the streams so far.
use Rattle.std.proofs.Common.{◌≡◌, take}
use Rattle.std.specs.List.{flat_map}
use Rattle.row_groups.specs.Places.{joined}
use Rattle.table_engine.specs.Waiting.{waiting_of}
use Rattle.table_engine.proofs.storing.slices_of.Given as goal

abbrev pub invariant-loop-stream : goal.invariant-loop-stream
invariant-loop-stream l = joined l.moved.items ≡ flat_map (waiting_of l.waiting) (take l.stream-index l.streams)
