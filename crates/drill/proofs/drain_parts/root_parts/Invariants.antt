-- The roots below the present one are there.
use Rattle.std.proofs.Common.{◌≡◌, ◌≤◌, map}
use Rattle.std.specs.List.{AllByRecursion, range_with_len}
use Rattle.drill.specs.Parts.{has_none, node_in}
use Rattle.drill.proofs.drain_parts.root_parts.Given as goal

abbrev pub invariant-loop-node : goal.invariant-loop-node
invariant-loop-node l = (map node_in l.parts.items ≡ range_with_len 0 l.node) × AllByRecursion has_none l.parts.items × (l.node ≤ l.count)
