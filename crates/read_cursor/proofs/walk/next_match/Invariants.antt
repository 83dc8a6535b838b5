-- The walk goes on, and what it has passed and is to skip stays the same together.
use Rattle.std.proofs.Common.{◌≡◌, ◌+◌, ◌-◌}
use Rattle.read_cursor.specs.Reading.{Walks}
use Rattle.read_cursor.proofs.walk.next_match.Given as goal

abbrev pub invariant-loop-walk : goal.invariant-loop-walk
invariant-loop-walk l = record {
  walks : Walks l.lease l.walk.position l.walk.place l.walk.passed;
  same : l.walk.passed + l.walk.skip ≡ l.initial.walk.passed + l.initial.walk.skip;
}

abbrev pub decreases-loop-walk : goal.decreases-loop-walk
decreases-loop-walk l = l.lease.hi - l.walk.position
