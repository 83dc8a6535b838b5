-- Those that wait already stand behind those that are still to wait.
use Rattle.std.proofs.Common.{◌≡◌, ◌≤◌, ◌+◌, ◌++◌, length, map, All}
use Rattle.proto_fields.specs.Spans.{part}
use Rattle.schema_msgs.specs.Walk.{inside, order}
use Rattle.schema_msgs.proofs.walks.await_all.Given as goal

abbrev pub invariant-loop-place : goal.invariant-loop-place
invariant-loop-place l = record {
  same : map (λ s. inside (l.depth + 1) (part l.message s)) l.places.items ++ order l.waiting.items ≡ map (λ s. inside (l.depth + 1) (part l.message s)) l.fn.places.items ++ order l.fn.waiting.items;
  within : All (λ s. s.start + s.len ≤ length l.message) l.places.items;
  fewer : length l.places.items ≤ length l.fn.places.items;
}

abbrev pub decreases-loop-place : goal.decreases-loop-place
decreases-loop-place l = length l.places.items
