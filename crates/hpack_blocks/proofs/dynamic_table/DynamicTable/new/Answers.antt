use Rattle.std.proofs.Common.{sym, arith}
use Rattle.hpack_blocks.proofs.TableLemmas.{no_size}
use Rattle.hpack_blocks.proofs.dynamic_table.DynamicTable.new.Goals as goal

pub invariant_of-result : goal.invariant_of-result
invariant_of-result c = (rw c.in_ok-with_capacity.ensures.items (sym no_size), omega (arith, c.from.ensures), omega (arith, c.from.ensures))
