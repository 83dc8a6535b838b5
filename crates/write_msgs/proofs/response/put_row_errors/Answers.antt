-- All row errors are written.
use Rattle.std.proofs.Common.{arith}
use Rattle.write_msgs.specs.declared.numbers.TheConstants.{ROW_ERRORS}
use Rattle.write_msgs.proofs.WritingLemmas.{row_errors_done}
use Rattle.write_msgs.proofs.response.put_row_errors.Goals as goal

pub returns : goal.returns
returns c =
    row_errors_done ROW_ERRORS c.loop-error.error-index c.args.errors.now c.args.out.now c.loop-error.out c.loop-error.invariant (omega (arith, c.loop-error-test.false))
