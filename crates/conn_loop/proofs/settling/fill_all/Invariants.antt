-- What the buffer holds so far was due, and it isn't longer than it may be.
use Rattle.std.proofs.Common.{length, ◌≤◌}
use Rattle.conn_record.specs.declared.limits.TheConstants.{WRITE_ROOM}
use Rattle.conn_calls.specs.Dealing.{dealing_of, IsDealt}
use Rattle.conn_loop.specs.Settling.{Filled}
use Rattle.conn_loop.proofs.settling.fill_all.Given as goal

abbrev pub invariant-loop : goal.invariant-loop
invariant-loop g l = record {
  can_next : (goal.iterator-loop g).can_next l.iterator';
  is_finite : (goal.iterator-loop g).is_finite l.iterator';
  short : length l.out.items ≤ WRITE_ROOM;
  filled : Filled IsDealt (dealing_of l.fn.conn) (dealing_of l.conn) l.out.items;
}
