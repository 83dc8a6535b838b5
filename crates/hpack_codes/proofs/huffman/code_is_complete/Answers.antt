use Rattle.hpack_codes.proofs.TableLemmas.{complete}
use Rattle.hpack_codes.proofs.huffman.code_is_complete.Goals as goal

pub returns-clause-complete : goal.returns-clause-complete
returns-clause-complete c = complete
