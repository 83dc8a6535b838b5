use Rattle.hpack_blocks.proofs.GrammarLemmas.{block_found, block_again}
use Rattle.hpack_blocks.proofs.laws.reads_the_grammar.Goals as goal

pub returns : goal.returns
returns c = λ before octets fields after are. (block_found before octets fields after are, block_again before octets fields after)
