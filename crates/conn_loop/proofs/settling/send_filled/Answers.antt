-- All of it went, or the link met a fault.
use Rattle.std.proofs.Common.{arith}
use Rattle.conn_loop.proofs.settling.send_filled.Goals as goal

pub returns-in-Err-clause-sends : goal.returns-in-Err-clause-sends
returns-in-Err-clause-sends g c = c.in-Err.ensures.sends

pub returns-then-out-lt-LEAST_ROOM-clause-sends : goal.returns-then-out-lt-LEAST_ROOM-clause-sends
returns-then-out-lt-LEAST_ROOM-clause-sends g c = (c.in-Ok.ensures.sends.0, omega (arith, c.if-out-lt-LEAST_ROOM.true, c.requires.short), c.in-Ok.ensures.sends.1)

pub returns-clause-sends : goal.returns-clause-sends
returns-clause-sends g c = (c.in-Ok.ensures.sends.0, omega (arith, c.if-out-lt-LEAST_ROOM.false), c.in-Ok.ensures.sends.1)
