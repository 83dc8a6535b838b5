use Rattle.std.proofs.Common.{arith}
use Rattle.std.proofs.lemmas.Result.{err_from_is_err_and}
use Rattle.std.proofs.lemmas.List.{length-drop}
use Rattle.hpack_blocks.proofs.BlockLemmas.{is_read-more, is_read-bad, is_read-end, slice_rest}
use Rattle.hpack_blocks.proofs.decoder.read_fields.Goals as goal

pub returns-in_err-used : goal.returns-in_err-used
returns-in_err-used c =
    let p = err_from_is_err_and c.from_residual-in_err-used.result c.from_residual-in_err-used.ensures.1 in
    let failed = rw (slice_rest c.args.bytes.now c.loop-at.at) at c.in_err-used.ensures in
    rw (p.1, p.2) (is_read-bad c.in_err-used.field-0.0 c.loop-at.list c.loop-at.table c.args.bytes.now c.loop-at.at _ c.loop-at-test.true c.loop-at.invariant.1 failed)

pub loop-at-preserved : goal.loop-at-preserved
loop-at-preserved c =
    let whole = slice_rest c.args.bytes.now c.loop-at.at in
    let read = rw whole at c.in_ok-used.ensures in
    (omega (arith, read.4, length-drop c.loop-at.at c.args.bytes.now), is_read-more c.loop-at.list c.read_field.new.list c.loop-at.table c.read_field.new.table c.args.bytes.now c.loop-at.at c.in_ok-used.used _ c.loop-at-test.true c.loop-at.invariant.1 read)

pub returns : goal.returns
returns c = is_read-end c.loop-at.list c.loop-at.table c.args.bytes.now c.loop-at.at _ c.loop-at-test.false c.loop-at.invariant.1
