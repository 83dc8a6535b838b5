use Rattle.std.proofs.Common.{◌≡◌}
use Rattle.hpack_blocks.specs.Table.{list_size, newest}
use Rattle.hpack_blocks.proofs.dynamic_table.drop_oldest.Given as goal

abbrev pub invariant-loop-size : goal.invariant-loop-size
invariant-loop-size l = (l.size ≡ list_size l.entries.items) × (newest l.room l.entries.items ≡ newest l.room l.fn.entries.items)

abbrev pub decreases-loop-size : goal.decreases-loop-size
decreases-loop-size l = l.size
