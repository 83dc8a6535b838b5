-- All errors are written.
use Rattle.std.proofs.Common.{arith}
use Rattle.write_msgs.specs.declared.numbers.TheConstants.{STREAM_ERRORS}
use Rattle.write_msgs.specs.CommitPartsBytes.{storage_error_bytes}
use Rattle.write_msgs.proofs.WritingLemmas.{all_written}
use Rattle.write_msgs.proofs.commits.put_errors.Goals as goal

pub returns : goal.returns
returns c =
    all_written storage_error_bytes STREAM_ERRORS c.loop-error.error-index c.args.errors.now c.args.out.now c.loop-error.out c.loop-error.invariant (omega (arith, c.loop-error-test.false))
