-- The texts so far are read.
use Rattle.std.proofs.Common.{map, take}
use Rattle.proto_fields.specs.Spans.{part}
use Rattle.write_msgs.specs.Commits.{text_item}
use Rattle.write_msgs.specs.Faults.{ReadsAs}
use Rattle.write_msgs.specs.Repeated.{items_from, listed}
use Rattle.read_msgs.proofs.reading.texts_at.Given as goal

abbrev pub invariant-loop-n : goal.invariant-loop-n
invariant-loop-n l = ReadsAs (listed l.read) (items_from (text_item l.number) 0 (map (part l.bytes) (take l.n l.spans)))
