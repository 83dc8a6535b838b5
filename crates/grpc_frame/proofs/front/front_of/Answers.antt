use Rattle.std.proofs.Common.{sym, arith}
use Rattle.std.proofs.lemmas.Grind.{common_steps}
use Rattle.grpc_frame.proofs.PartLemmas.{part_of-empty, part_of-flag, part_of-short, part_of-too_long, part_of-missing, part_of-whole, prefix-front, frame-front}
use Rattle.grpc_frame.proofs.front.front_of.Goals as goal

pub returns-then-is_empty-clause-part : goal.returns-then-is_empty-clause-part
returns-then-is_empty-clause-part c = sym (part_of-empty c.args.limit c.args.bytes.now (grind (arith, common_steps)))

pub returns-then-flag-ne0-clause-part : goal.returns-then-flag-ne0-clause-part
returns-then-flag-ne0-clause-part c =
    sym (part_of-flag c.args.limit c.args.bytes.now (grind (arith, common_steps)) c.if-flag-ne0.true)

pub returns-then-bytes-lt-PREFIX_LEN-clause-part :
    goal.returns-then-bytes-lt-PREFIX_LEN-clause-part
returns-then-bytes-lt-PREFIX_LEN-clause-part c =
    sym (part_of-short c.args.limit c.args.bytes.now (omega arith) c.if-flag-ne0.false)

pub returns-then-len-limit-clause-part : goal.returns-then-len-limit-clause-part
returns-then-len-limit-clause-part c =
    sym (part_of-too_long c.args.limit _ c.args.bytes.now (omega arith) c.if-flag-ne0.false c.from_be_bytes-len.ensures (omega arith))

pub returns-then-bytes-len-clause-part : goal.returns-then-bytes-len-clause-part
returns-then-bytes-len-clause-part c =
    sym (part_of-missing c.args.limit _ c.args.bytes.now (omega arith) c.if-flag-ne0.false c.from_be_bytes-len.ensures (omega arith) (omega arith))

pub returns-clause-part : goal.returns-clause-part
returns-clause-part c =
    sym (part_of-whole c.args.limit _ c.args.bytes.now (omega arith) c.if-flag-ne0.false c.from_be_bytes-len.ensures (omega arith) (omega arith))

pub returns-clause-spelled : goal.returns-clause-spelled
returns-clause-spelled c =
    (omega arith, omega arith, frame-front _ c.args.bytes.now (omega arith) (λ i. omega (arith, c.type_inv.bytes i)) c.if-flag-ne0.false c.from_be_bytes-len.ensures (omega arith))

pub returns-then-bytes-len-clause-spelled : goal.returns-then-bytes-len-clause-spelled
returns-then-bytes-len-clause-spelled c =
    (omega arith, omega arith, omega arith, prefix-front _ c.args.bytes.now (omega arith) (λ i. omega (arith, c.type_inv.bytes i)) c.if-flag-ne0.false c.from_be_bytes-len.ensures)
