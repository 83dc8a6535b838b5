-- The read streams so far are written.
use Rattle.std.proofs.Common.{◌≡◌, ◌++◌, take}
use Rattle.std.specs.List.{flat_map}
use Rattle.proto_fields.specs.Record.{record_bytes}
use Rattle.write_msgs.specs.Writing.{bytes_field}
use Rattle.read_msgs.specs.declared.numbers.TheConstants.{STREAMS}
use Rattle.read_msgs.specs.StreamsBytes.{read_stream_bytes}
use Rattle.read_msgs.proofs.sessions.put_streams.Given as goal

abbrev pub invariant-loop-stream : goal.invariant-loop-stream
invariant-loop-stream l = l.out ≡ l.fn.out ++ flat_map (λ stream. record_bytes (bytes_field STREAMS (read_stream_bytes stream))) (take l.stream-index l.streams)
