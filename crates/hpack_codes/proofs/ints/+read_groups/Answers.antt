use Rattle.std.proofs.Common.{◌≡◌, ◌*◌, ◌^◌, ◌-◌, arith}
use Rattle.hpack_codes.proofs.IntegerLemmas.{pow_more, pow_few, pow_some, too_many}
use Rattle.hpack_codes.proofs.ints.+read_groups.Goals as goal

pub returns-then-most-eq0-clause-reads : goal.returns-then-most-eq0-clause-reads
returns-then-most-eq0-clause-reads t c = too_many c.args.at c.args.most c.args.bytes.now c.if-at-bytes.false c.if-most-eq0.true

pub returns-then-octet-lt128-clause-within : goal.returns-then-octet-lt128-clause-within
returns-then-octet-lt128-clause-within t c =
    let some = pow_some (c.args.most - 1) in let more : 128 ^ c.args.most ≡ 128 * 128 ^ (c.args.most - 1) = pow_more c.args.most (omega arith) in
    (omega (arith, some, more), omega arith)

pub overflow_mul-result : goal.overflow_mul-result
overflow_mul-result t c =
    let few = pow_few (c.args.most - 1) (omega arith) in
    omega (arith, few, c.in_ok-higher.ensures.within)

pub overflow_add-result-2 : goal.overflow_add-result-2
overflow_add-result-2 t c =
    let few = pow_few (c.args.most - 1) (omega arith) in
    omega (arith, few, c.in_ok-higher.ensures.within)

pub returns-clause-within : goal.returns-clause-within
returns-clause-within t c =
    let more : 128 ^ c.args.most ≡ 128 * 128 ^ (c.args.most - 1) = pow_more c.args.most (omega arith) in
    (omega (arith, more, c.in_ok-higher.ensures.within), c.in_ok-higher.ensures.within.1)
