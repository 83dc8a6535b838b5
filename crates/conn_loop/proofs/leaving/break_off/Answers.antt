-- The connection stands for the record with the broken rule, or there was no memory for GOAWAY.
use Rattle.conn_loop.proofs.LeavingLemmas.{breaks-framing, breaks-memory}
use Rattle.conn_loop.proofs.leaving.break_off.Goals as goal

pub returns-in-Ok-clause-breaks : goal.returns-in-Ok-clause-breaks
returns-in-Ok-clause-breaks g c readings plan passes0 passes old h =
    c.leave.ensures.leaves readings plan passes0 passes old (breaks-framing plan passes0 passes old _ _ _ _ _ _ h c.in-Ok.ensures)

pub returns-in-Err-clause-breaks : goal.returns-in-Err-clause-breaks
returns-in-Err-clause-breaks g c readings plan passes0 passes old h = breaks-memory plan passes0 passes old _ _ _ _ _ h
