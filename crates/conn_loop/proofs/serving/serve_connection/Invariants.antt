-- What a round keeps, since the connection was taken.
use Rattle.std.proofs.Common.{◌≡◌, false}
use Rattle.open_tables.specs.Tables.{AreTheirs, specs_of}
use Rattle.call_plans.specs.Plans.{plan}
use Rattle.conn_loop.specs.Shown.{shown}
use Rattle.conn_loop.specs.Rounds.{Keeps}
use Rattle.conn_loop.proofs.serving.serve_connection.Given as goal

abbrev pub invariant-loop : goal.invariant-loop
invariant-loop g l =
    let shows = shown g.L.Link.log g.L.Link.left g.L.Link.ended g.L.Link.faults in
    (goal.iterator-loop g).can_next l.iterator' × (goal.iterator-loop g).is_finite l.iterator' × (g.L.Link.closed l.link ≡ false) × AreTheirs l.tables l.passes
    × Keeps (plan (specs_of l.tables)) l.fn.passes l.passes (shows l.fn.link (g.C.Clock.readings l.fn.clock)) (shows l.link (g.C.Clock.readings l.clock)) l.state
