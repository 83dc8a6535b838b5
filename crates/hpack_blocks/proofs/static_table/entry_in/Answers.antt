use Rattle.std.proofs.Common.{arith}
use Rattle.hpack_blocks.proofs.StaticLemmas.{static_at, table_len}
use Rattle.hpack_blocks.proofs.static_table.entry_in.Goals as goal

pub bounds-table-place : goal.bounds-table-place
bounds-table-place c = omega (arith, table_len c.args.table.now c.requires.table, c.requires.place)

pub returns : goal.returns
returns c = static_at c.args.table.now c.args.place _ c.requires.table c.requires.place
