-- The fields so far are read.
use Rattle.std.proofs.Common.{map, take}
use Rattle.proto_fields.specs.Spans.{part}
use Rattle.write_msgs.specs.Faults.{ReadsAs}
use Rattle.write_msgs.specs.Repeated.{items_from, listed}
use Rattle.schema_msgs.specs.Schema.{table_field_schema_of}
use Rattle.schema_msgs.specs.Walk.{laid_all}
use Rattle.schema_msgs.proofs.schema_reading.nested_at.Given as goal

abbrev pub invariant-loop-n : goal.invariant-loop-n
invariant-loop-n l = ReadsAs (listed l.read) (laid_all 0 (items_from table_field_schema_of 0 (map (part l.bytes) (take l.n l.places))))
