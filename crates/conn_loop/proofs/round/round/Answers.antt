-- What was written, then what was read.
use Rattle.conn_loop.proofs.round.round.Goals as goal

pub read_once-requires-clause-wants : goal.read_once-requires-clause-wants
read_once-requires-clause-wants g c = rw c.settle_once.ensures.reader c.requires.wants

pub returns-in-GoesOn-clause-rounds : goal.returns-in-GoesOn-clause-rounds
returns-in-GoesOn-clause-rounds g c passes0 old keeps =
    c.read_once.ensures.reads passes0 old (rw c.in-GoesOn.is at (c.settle_once.ensures.settles _ _ passes0 _ old keeps))

pub returns-in-Ended-clause-rounds : goal.returns-in-Ended-clause-rounds
returns-in-Ended-clause-rounds g c passes0 old keeps = rw c.in-Ended.is at (c.settle_once.ensures.settles _ _ passes0 _ old keeps)
