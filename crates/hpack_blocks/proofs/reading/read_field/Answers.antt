use Rattle.std.proofs.Common.{arith}
use Rattle.hpack_blocks.specs.Texts.{field_in}
use Rattle.hpack_blocks.proofs.FieldLemmas.{field_at-indexed, field_at-literal}
use Rattle.hpack_blocks.proofs.reading.read_field.Goals as goal

pub returns-then-first-ge128 : goal.returns-then-first-ge128
returns-then-first-ge128 c =
    let f = field_in c.in_ok-field.field in
    let read = field_at-indexed c.args.table.now c.args.bytes.now f c.in_ok-field.used (omega (arith, c.if-first-ge128.true)) c.in_ok-field.ensures.reads in
    (f, read, c.in_ok-push.ensures, c.in_ok-field.ensures.within.0, c.in_ok-field.ensures.within.1)

pub returns : goal.returns
returns c =
    let f = field_in c.in_ok-field-4.field in
    let read = field_at-literal c.args.table.now c.args.bytes.now f c.in_ok-field-4.used (omega (arith, c.if-first-ge32.false)) c.in_ok-field-4.ensures.reads in
    (f, read, c.in_ok-push-2.ensures, c.in_ok-field-4.ensures.within.0, c.in_ok-field-4.ensures.within.1)
