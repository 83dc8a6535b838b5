-- Each exit is a lemma.
use Rattle.std.proofs.Common.{refl}
use Rattle.conn_loop.proofs.RoundLemmas.{quiet-is-ready, settled-quiet, settled-behind, settled-fault, moved-nothing}
use Rattle.conn_loop.proofs.round.settle_once.Goals as goal

pub returns-then-state-clause-settles : goal.returns-then-state-clause-settles
returns-then-state-clause-settles g c readings plan passes0 passes old stays = quiet-is-ready plan passes0 passes old _ _ _ _ _ c.if-state.true stays

pub returns-in-Quiet-clause-settles : goal.returns-in-Quiet-clause-settles
returns-in-Quiet-clause-settles g c readings plan passes0 passes old stays =
    let e = rw c.in-Quiet.is at c.settle.ensures.settles in
    settled-quiet plan passes0 passes old _ _ _ _ _ stays.going refl _ e.0 e.2 e.1

pub returns-in-Behind-clause-settles : goal.returns-in-Behind-clause-settles
returns-in-Behind-clause-settles g c readings plan passes0 passes old stays =
    let e = rw c.in-Behind.is at c.settle.ensures.settles in
    settled-behind plan passes0 passes old _ _ _ _ _ stays.going refl _ e.0 e.2 e.1 _ c.if-state.false

pub returns-in-LinkFault-clause-settles : goal.returns-in-LinkFault-clause-settles
returns-in-LinkFault-clause-settles g c readings plan passes0 passes old stays =
    let e = rw c.in-LinkFault.is at c.settle.ensures.settles in
    settled-fault plan passes0 passes old _ _ _ _ _ stays.going refl e.0 e.1

pub returns-in-Memory-clause-settles : goal.returns-in-Memory-clause-settles
returns-in-Memory-clause-settles g c readings plan passes0 passes old stays =
    let e = rw c.in-Memory.is at c.settle.ensures.settles in
    moved-nothing plan passes0 passes old _ _ _ _ _ stays.going refl e.0 e.1
