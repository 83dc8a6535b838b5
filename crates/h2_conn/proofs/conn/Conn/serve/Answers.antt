-- The kinds of frames that are passed over.
use Rattle.h2_conn.specs.Taking.{IsPriority, IsGoaway, IsUnknown}
use Rattle.h2_conn.proofs.conn.Conn.serve.Goals as goal

pub pass-requires-clause-passed : goal.pass-requires-clause-passed
pass-requires-clause-passed c = IsPriority c.in-Priority.stream

pub pass-requires-in-Goaway-clause-passed : goal.pass-requires-in-Goaway-clause-passed
pass-requires-in-Goaway-clause-passed c = IsGoaway c.in-Goaway.last c.in-Goaway.code

pub pass-requires-in-Unknown-clause-passed : goal.pass-requires-in-Unknown-clause-passed
pass-requires-in-Unknown-clause-passed c = IsUnknown c.in-Unknown.kind c.in-Unknown.stream
