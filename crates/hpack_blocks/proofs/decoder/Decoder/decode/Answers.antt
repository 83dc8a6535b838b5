use Rattle.std.proofs.Common.{arith}
use Rattle.hpack_blocks.proofs.GrammarLemmas.{follows_grammar}
use Rattle.hpack_blocks.proofs.decoder.Decoder.decode.Goals as goal

pub returns-clause-grammar : goal.returns-clause-grammar
returns-clause-grammar c = λ t is. follows_grammar t _ c.args.block.now _ _ (λ i. omega (arith, c.type_inv.block i)) c.decode_next.ensures is
