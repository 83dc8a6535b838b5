use Rattle.std.proofs.Common.{length, ap, sym, ◌∙◌, arith, ◌+◌}
use Rattle.proto_fields.proofs.VarintLemmas.{number_of-full, number_of-last, number_of-more}
use Rattle.proto_fields.proofs.varints.+number_len.Goals as goal

pub returns-then-most-eq0-clause-len : goal.returns-then-most-eq0-clause-len
returns-then-most-eq0-clause-len t c = rw (number_of-full c.args.most c.args.n c.if-most-eq0.true) (omega arith)

pub returns-then-n-lt128-clause-len : goal.returns-then-n-lt128-clause-len
returns-then-n-lt128-clause-len t c = rw (number_of-last c.args.most c.args.n (omega arith) c.if-n-lt128.true) (omega arith)

pub returns-clause-len : goal.returns-clause-len
returns-clause-len t c = rw (number_of-more c.args.most c.args.n (omega arith) (omega arith)) (omega (arith, c.number_len.ensures.len))
