use Rattle.h2_conn.proofs.FillSteps.{Filling}
use Rattle.h2_conn.proofs.conn.Conn.fill.Given as goal

-- the frames so far
abbrev pub invariant-loop-out : goal.invariant-loop-out
invariant-loop-out l = Filling l.fn.self l.room l.fn.out.items l.left l.self l.out.items

abbrev pub decreases-loop-out : goal.decreases-loop-out
decreases-loop-out l = l.left
