-- The loop begins with a new connection, and each round keeps its invariant or serves the connection to its end.
use Rattle.std.proofs.Common.{ap}
use Rattle.conn_calls.specs.Dealing.{text_left}
use Rattle.conn_loop.proofs.NothingLemmas.{nothing-served}
use Rattle.conn_loop.proofs.RoundLemmas.{begins, wants}
use Rattle.conn_loop.proofs.serving.serve_connection.Goals as goal

pub returns-in_default-clause-serves : goal.returns-in_default-clause-serves
returns-in_default-clause-serves g c = nothing-served _ _ _

pub loop-init : goal.loop-init
loop-init g c =
    let e = c.in-Ok.ensures in
    (tt, tt, c.requires.open, c.requires.theirs, begins _ _ _ _ _ _ _ e.stands (λ id. ap text_left (e.empty id)) e.reader e.calls e.quiet)

pub round-after-requires-clause-wants : goal.round-after-requires-clause-wants
round-after-requires-clause-wants g c = wants _ _ _ _ _ _ _ _ _ c.loop.invariant.4

pub loop-preserved : goal.loop-preserved
loop-preserved g c =
    let e = c.round-after.ensures in
    (tt, tt, e.open, e.theirs, rw c.in-GoesOn.is at (e.rounds _ _ c.loop.invariant.4))

pub returns-in-Ended-clause-serves : goal.returns-in-Ended-clause-serves
returns-in-Ended-clause-serves g c = rw c.in-Ended.is at (c.round-after.ensures.rounds _ _ c.loop.invariant.4)
