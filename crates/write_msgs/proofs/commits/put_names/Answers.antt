-- All names are written.
use Rattle.std.proofs.Common.{arith}
use Rattle.write_msgs.specs.declared.numbers.TheConstants.{WRITE_STREAMS}
use Rattle.write_msgs.proofs.WritingLemmas.{texts_written}
use Rattle.write_msgs.proofs.commits.put_names.Goals as goal

pub returns : goal.returns
returns c = texts_written WRITE_STREAMS c.loop-name.name-index c.args.names.now c.args.out.now c.loop-name.out c.loop-name.invariant (omega (arith, c.loop-name-test.false))
