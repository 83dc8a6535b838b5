-- All read streams are written.
use Rattle.std.proofs.Common.{arith}
use Rattle.write_msgs.proofs.WritingLemmas.{all_written}
use Rattle.read_msgs.specs.declared.numbers.TheConstants.{STREAMS}
use Rattle.read_msgs.specs.StreamsBytes.{read_stream_bytes}
use Rattle.read_msgs.proofs.sessions.put_streams.Goals as goal

pub returns : goal.returns
returns c =
    all_written read_stream_bytes STREAMS c.loop-stream.stream-index c.args.streams.now c.args.out.now c.loop-stream.out c.loop-stream.invariant (omega (arith, c.loop-stream-test.false))
