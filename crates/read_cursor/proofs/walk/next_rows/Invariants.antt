-- The rows so far are those that were to be given first.
use Rattle.std.proofs.Common.{◌≡◌, ◌+◌, ◌-◌, ◌≤◌, length, take}
use Rattle.read_cursor.specs.Lease.{matching}
use Rattle.read_cursor.specs.Reading.{Walks, rows_left, reading_of}
use Rattle.read_cursor.proofs.walk.next_rows.Given as goal

abbrev pub invariant-loop-alloc : goal.invariant-loop-alloc
invariant-loop-alloc l = record {
  walks : Walks l.lease l.walk.position l.walk.place l.walk.passed;
  at : l.walk.passed + l.walk.skip ≡ l.initial.walk.passed + l.initial.walk.skip + length l.rows.items;
  rows : l.rows.items ≡ take (length l.rows.items) (rows_left (reading_of l.lease l.initial.walk));
  room : length l.rows.items ≤ length (matching l.lease) - (l.initial.walk.passed + l.initial.walk.skip);
  short : length l.rows.items ≤ 1024;
}

abbrev pub decreases-loop-alloc : goal.decreases-loop-alloc
decreases-loop-alloc l = 1024 - length l.rows.items
