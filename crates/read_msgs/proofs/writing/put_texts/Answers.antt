-- All texts are written.
use Rattle.std.proofs.Common.{arith}
use Rattle.write_msgs.proofs.WritingLemmas.{texts_written}
use Rattle.read_msgs.proofs.writing.put_texts.Goals as goal

pub returns : goal.returns
returns c = texts_written c.args.number c.loop-text.text-index c.args.texts.now c.args.out.now c.loop-text.out c.loop-text.invariant (omega (arith, c.loop-text-test.false))
