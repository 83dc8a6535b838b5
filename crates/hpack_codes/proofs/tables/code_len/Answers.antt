use Rattle.std.proofs.Common.{ap, ◌∙◌, get_or, arith}
use Rattle.hpack_codes.specs.Lengths.{lengths}
use Rattle.hpack_codes.proofs.TableLemmas.{length_at, length_small}
use Rattle.hpack_codes.proofs.tables.code_len.Goals as goal

pub returns-clause-gives : goal.returns-clause-gives
returns-clause-gives c = length_at c.from.result (omega (arith, c.from.ensures)) ∙ ap (λ i. get_or lengths i 0) c.from.ensures

pub returns-clause-most : goal.returns-clause-most
returns-clause-most c = length_small c.from.result
