use Rattle.hpack_codes.proofs.LawLemmas.{is_found, is_only}
use Rattle.hpack_codes.proofs.huffman.huffman_decode.Goals as goal

pub returns-clause-found : goal.returns-clause-found
returns-clause-found c = is_found c.args.bytes.now c.decoded.result c.decoded.ensures

pub returns-clause-only : goal.returns-clause-only
returns-clause-only c = λ octets p. is_only c.args.bytes.now octets c.decoded.result c.decoded.ensures p
