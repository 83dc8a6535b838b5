-- What is written and the number that is left are the whole number.
use Rattle.std.proofs.Common.{◌≡◌, ◌++◌}
use Rattle.avro_rows.specs.Long.{varint_of}
use Rattle.avro_rows.proofs.longs.push_varint.Given as goal

abbrev pub invariant-loop-rest : goal.invariant-loop-rest
invariant-loop-rest l = l.out.items ++ varint_of l.rest ≡ l.fn.out.items ++ varint_of l.fn.number

abbrev pub decreases-loop-rest : goal.decreases-loop-rest
decreases-loop-rest l = l.rest
