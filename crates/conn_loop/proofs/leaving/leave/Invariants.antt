-- The frames so far were due, and went.
use Rattle.std.proofs.Common.{◌≡◌, false}
use Rattle.conn_deferral.specs.Deferred.{Deals}
use Rattle.conn_calls.specs.Dealing.{Dealt, dealing_of}
use Rattle.conn_loop.specs.Settling.{Went}
use Rattle.conn_loop.proofs.leaving.leave.Given as goal

abbrev pub invariant-loop : goal.invariant-loop
invariant-loop g l =
    let now : Dealt = record { conn = l.conn-inside.conn; bodies = l.conn-inside.bodies.entries } in
    (goal.iterator-loop g).can_next l.iterator' × (goal.iterator-loop g).is_finite l.iterator' × (g.L.Link.closed l.link ≡ false)
    × Went Deals (dealing_of l.fn.conn) (dealing_of now) (g.L.Link.log l.fn.link) (g.L.Link.log l.link) × (g.L.Link.faults l.link ≡ g.L.Link.faults l.fn.link)
