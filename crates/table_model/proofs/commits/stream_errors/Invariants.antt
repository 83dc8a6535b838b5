-- The errors so far are those of the streams so far.
use Rattle.std.proofs.Common.{◌≡◌, take}
use Rattle.table_model.specs.Checks.{stream_errors}
use Rattle.table_model.proofs.commits.stream_errors.Given as goal

abbrev pub invariant-loop-place : goal.invariant-loop-place
invariant-loop-place g l = l.errors.items ≡ stream_errors (g.S.Streams.state l.look) (take l.place l.streams)
