-- The rows so far and those left are all.
use Rattle.std.proofs.Common.{◌≡◌, ◌-◌, ◌++◌, length}
use Rattle.read_cursor.specs.Lease.{matching}
use Rattle.read_cursor.specs.Reading.{rows_left}
use Rattle.drill.proofs.drain_reads.read_rest.Given as goal

abbrev pub invariant-loop-cursor : goal.invariant-loop-cursor
invariant-loop-cursor l = record {
  lease : l.cursor.lease ≡ l.initial.cursor.lease;
  sum : l.rows ++ rows_left l.cursor ≡ l.initial.rows ++ rows_left l.initial.cursor;
}

abbrev pub decreases-loop-cursor : goal.decreases-loop-cursor
decreases-loop-cursor l = length (matching l.cursor.lease) - l.cursor.at
