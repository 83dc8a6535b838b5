-- The rows so far, and as many of those left as are still to be read, are all that are to be read.
use Rattle.std.proofs.Common.{◌≡◌, ◌-◌, ◌++◌, take}
use Rattle.read_cursor.specs.Reading.{rows_left}
use Rattle.drill.proofs.drain_reads.read_some.Given as goal

abbrev pub invariant-loop : goal.invariant-loop
invariant-loop l = record {
  sum : l.rows.items ++ take (l.count - l.counter) (rows_left l.cursor) ≡ l.initial.rows.items ++ take l.count (rows_left l.initial.cursor);
}
