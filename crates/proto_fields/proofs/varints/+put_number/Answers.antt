use Rattle.std.proofs.Common.{refl, sym, arith}
use Rattle.std.proofs.lemmas.List.{append-nil}
use Rattle.proto_fields.proofs.VarintLemmas.{number_of-full, number_of-last, number_of-pushed}
use Rattle.proto_fields.proofs.varints.+put_number.Goals as goal

pub returns-then-most-eq0-clause-items : goal.returns-then-most-eq0-clause-items
returns-then-most-eq0-clause-items t c = rw (number_of-full c.args.most c.args.n c.if-most-eq0.true) (sym (append-nil c.args.bytes.now.items))

pub returns-then-n-lt128-clause-items : goal.returns-then-n-lt128-clause-items
returns-then-n-lt128-clause-items t c = rw (number_of-last c.args.most c.args.n (omega arith) c.if-n-lt128.true, c.push.ensures.items, c.unwrap.ensures) refl

pub returns-clause-items : goal.returns-clause-items
returns-clause-items t c = rw (c.put_number.ensures.items, c.push-2.ensures.items, c.unwrap-2.ensures) (number_of-pushed c.args.bytes.now.items c.args.most c.args.n (omega arith) (omega arith))
