-- It waits where all is written.
use Rattle.std.proofs.Common.{refl}
use Rattle.conn_loop.proofs.RoundLemmas.{waited, read-fault}
use Rattle.conn_loop.proofs.reading.rest.Goals as goal

pub returns-in-Ok-clause-rests : goal.returns-in-Ok-clause-rests
returns-in-Ok-clause-rests g c readings plan passes0 passes old stays =
    let e = rw (c.in-Ok.is, c.requires.ready) at c.wait.ensures.waits in
    waited plan passes0 passes old _ _ _ _ _ _ stays c.if-not-state.false refl e.0 e.1

pub returns-in-Err-clause-rests : goal.returns-in-Err-clause-rests
returns-in-Err-clause-rests g c readings plan passes0 passes old stays =
    let e = rw c.in-Err.is at c.wait.ensures.waits in
    read-fault plan passes0 passes old _ _ _ _ _ stays.going refl e.0 e.1
