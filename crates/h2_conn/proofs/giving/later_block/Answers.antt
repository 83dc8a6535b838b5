-- Fields whose block is short have a spelling.
use Rattle.h2_conn.proofs.BlockLemmas.{block-fits}
use Rattle.h2_conn.proofs.giving.later_block.Goals as goal

pub write_block-requires : goal.write_block-requires
write_block-requires c = block-fits c.args.fields.now c.requires
