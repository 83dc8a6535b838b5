use Rattle.std.proofs.Common.{◌≡◌, ◌∙◌, true, false, ◌≤◌, length, drop, get_or, sym, arith}
use Rattle.std.proofs.lemmas.Result.{err_from_is_err_and}
use Rattle.std.proofs.lemmas.List.{length-drop}
use Rattle.hpack_blocks.specs.Block.{is_update}
use Rattle.hpack_blocks.proofs.BlockLemmas.{update_more, update_bad, update_end, update_past, slice_rest}
use Rattle.hpack_blocks.proofs.decoder.read_updates.Goals as goal

pub returns-then-not-is_size_update : goal.returns-then-not-is_size_update
returns-then-not-is_size_update c =
    let is : is_update (get_or c.args.block.now c.loop-at.at 0) ≡ false = sym c.is_size_update.ensures ∙ c.if-not-is_size_update.true in
    (sym c.loop-at.invariant.1 ∙ update_past c.args.block.now c.loop-at.table c.loop-at.at is, c.loop-at.invariant.0)

pub returns-in_err-used : goal.returns-in_err-used
returns-in_err-used c =
    let is : is_update (get_or c.args.block.now c.loop-at.at 0) ≡ true = sym c.is_size_update.ensures ∙ c.if-not-is_size_update.false in
    let p = err_from_is_err_and c.from_residual.result c.from_residual.ensures.1 in
    let failed = rw (slice_rest c.args.block.now c.loop-at.at) at c.in_err-used.ensures.reads in
    rw (p.1, p.2) (update_bad c.in_err-used.field-0.0 c.args.block.now c.loop-at.table c.loop-at.at _ c.loop-at-test.true is failed c.loop-at.invariant.1)

pub loop-at-preserved : goal.loop-at-preserved
loop-at-preserved c =
    let is : is_update (get_or c.args.block.now c.loop-at.at 0) ≡ true = sym c.is_size_update.ensures ∙ c.if-not-is_size_update.false in
    let whole = slice_rest c.args.block.now c.loop-at.at in
    let read = rw whole at c.in_ok-used.ensures.reads in
    let few : c.in_ok-used.used ≤ length (drop c.loop-at.at c.args.block.now) = rw (← whole) c.in_ok-used.ensures.within.1 in
    (omega (arith, few, length-drop c.loop-at.at c.args.block.now), update_more c.args.block.now c.loop-at.table c.read_update.new.table c.loop-at.at c.in_ok-used.used _ c.loop-at-test.true is c.in_ok-used.ensures.within.0 few read c.loop-at.invariant.1)

pub returns : goal.returns
returns c = (sym c.loop-at.invariant.1 ∙ update_end c.args.block.now c.loop-at.table c.loop-at.at c.loop-at-test.false, c.loop-at.invariant.0)
