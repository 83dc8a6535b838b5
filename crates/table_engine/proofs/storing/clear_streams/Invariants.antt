-- The streams so far have no row that waits.
use Rattle.std.proofs.Common.{◌≡◌, take, fold}
use Rattle.table_engine.specs.Waiting.{with_none}
use Rattle.table_engine.proofs.storing.clear_streams.Given as goal

abbrev pub invariant-loop-stream : goal.invariant-loop-stream
invariant-loop-stream l = l.waiting ≡ fold with_none l.fn.waiting (take l.stream-index l.streams)
