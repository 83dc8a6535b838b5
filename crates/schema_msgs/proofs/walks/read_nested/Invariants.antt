-- What was read so far and what waits are the whole.
use Rattle.std.proofs.Common.{length}
use Rattle.std.specs.List.{AllByRecursion}
use Rattle.write_msgs.specs.Repeated.{located}
use Rattle.schema_msgs.specs.Schema.{table_field_schema_of}
use Rattle.schema_msgs.specs.Walk.{laid, LiesIn, order, work}
use Rattle.schema_msgs.proofs.WalkLemmas.{Reads}
use Rattle.schema_msgs.proofs.walks.read_nested.Given as goal

abbrev pub invariant-loop-next : goal.invariant-loop-next
invariant-loop-next l = record {
  reads : Reads (laid 0 (located 0 (table_field_schema_of l.bytes))) l.read (order l.waiting.items);
  lie : AllByRecursion (LiesIn (length l.bytes)) (order l.waiting.items);
}

abbrev pub decreases-loop-next : goal.decreases-loop-next
decreases-loop-next l = work (order l.waiting.items)
