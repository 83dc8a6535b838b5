use Rattle.std.proofs.Common.{refl}
use Rattle.hpack_blocks.specs.Static.{static_table}
use Rattle.hpack_blocks.proofs.static_table.static_entry.Goals as goal

pub entry_in-requires-clause-table : goal.entry_in-requires-clause-table
unfolding static_table
entry_in-requires-clause-table c = refl
