use Rattle.std.proofs.Common.{arith}
use Rattle.proto_fields.proofs.VarintLemmas.{low_number_at-end, low_number_at-full, low_number_at-last, low_number_at-none, low_number_at-more}
use Rattle.proto_fields.proofs.varints.+number_at.Goals as goal

pub returns-in_default : goal.returns-in_default
returns-in_default t c = low_number_at-end c.args.most c.args.bytes.now (omega arith)

pub returns-then-most-eq0 : goal.returns-then-most-eq0
returns-then-most-eq0 t c = low_number_at-full c.args.most c.args.bytes.now c.if-most-eq0.true

pub returns-then-byte-lt128 : goal.returns-then-byte-lt128
returns-then-byte-lt128 t c = low_number_at-last c.args.most c.args.bytes.now (omega arith) (omega arith) (omega arith)

pub returns-in_err-high : goal.returns-in_err-high
returns-in_err-high t c = rw c.from_residual.ensures (low_number_at-none c.args.most c.args.bytes.now (omega arith) c.in_err-high.ensures)

pub returns : goal.returns
returns t c = low_number_at-more c.args.most c.args.bytes.now c.in_ok-high.high c.in_ok-high.rest.now (omega arith) (omega arith) (omega arith) c.in_ok-high.ensures
