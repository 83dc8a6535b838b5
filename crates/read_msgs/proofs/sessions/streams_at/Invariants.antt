-- The read streams so far are read.
use Rattle.std.proofs.Common.{map, take}
use Rattle.proto_fields.specs.Spans.{part}
use Rattle.write_msgs.specs.Faults.{ReadsAs}
use Rattle.write_msgs.specs.Repeated.{items_from, listed}
use Rattle.read_msgs.specs.Streams.{read_stream_of}
use Rattle.read_msgs.proofs.sessions.streams_at.Given as goal

abbrev pub invariant-loop-n : goal.invariant-loop-n
invariant-loop-n l = ReadsAs (listed l.read) (items_from read_stream_of 0 (map (part l.bytes) (take l.n l.spans)))
