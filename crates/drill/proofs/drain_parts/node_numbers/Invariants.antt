-- The nodes of the parts so far.
use Rattle.std.proofs.Common.{◌≡◌, map, take}
use Rattle.drill.specs.Parts.{node_in}
use Rattle.drill.proofs.drain_parts.node_numbers.Given as goal

abbrev pub invariant-loop-part : goal.invariant-loop-part
invariant-loop-part l = l.nodes.items ≡ map node_in (take l.part-index l.parts)
