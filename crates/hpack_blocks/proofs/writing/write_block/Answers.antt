use Rattle.hpack_blocks.proofs.SpellingLemmas.{block_back-result}
use Rattle.hpack_blocks.proofs.writing.write_block.Goals as goal

pub returns-clause-reads_back : goal.returns-clause-reads_back
returns-clause-reads_back c = block_back-result c.args.first c.args.fields.now c.spelled_block.result c.requires c.spelled_block.ensures
