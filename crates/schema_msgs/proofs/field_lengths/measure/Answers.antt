-- A field's message is its own part and the fields within it.
use Rattle.std.proofs.Common.{◌≡◌, ◌+◌, ap, arith, refl}
use Rattle.std.specs.Prelude.{length}
use Rattle.proto_fields.specs.Varint.{varint_of}
use Rattle.schema_msgs.specs.Lengths.{size_of}
use Rattle.schema_msgs.proofs.LengthLemmas.{below_more}
use Rattle.schema_msgs.proofs.field_lengths.measure.Goals as goal

pub returns-clause-len : goal.returns-clause-len
returns-clause-len c = λ behind below.
    let within = rw c.as_slice.ensures.value at c.len_at.ensures in
    omega (arith, c.in_ok-len.ensures, c.in_ok-own_len.ensures, within, below (c.args.field.now.depth + 1))

pub returns-clause-below : goal.returns-clause-below
returns-clause-below c = λ behind below.
    let within = rw c.as_slice.ensures.value at c.len_at.ensures in
    let same : c.in_ok-len.len ≡ size_of c.args.field.now behind = omega (arith, c.in_ok-len.ensures, c.in_ok-own_len.ensures, within, below (c.args.field.now.depth + 1)) in
    below_more _ _ _ behind c.args.field.now c.in_ok-sum.field-0 refl below
    (omega (arith, c.in_ok-sum.ensures, c.varint_len.ensures.len, c.varint_len-2.ensures.len, same, ap (λ n. length (varint_of n)) same)) c.in_ok-add_at.ensures
