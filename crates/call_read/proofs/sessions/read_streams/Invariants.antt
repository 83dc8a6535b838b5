-- The nodes below the present one are there.
use Rattle.std.proofs.Common.{◌≡◌, ◌≤◌, map}
use Rattle.std.specs.List.{range_with_len}
use Rattle.call_plans.specs.ReadNames.{read_stream}
use Rattle.call_read.proofs.sessions.read_streams.Given as goal

abbrev pub invariant-loop-node : goal.invariant-loop-node
invariant-loop-node l = (l.streams.items ≡ map (read_stream l.project l.place l.session) (range_with_len 0 l.node)) × (l.node ≤ l.count)
