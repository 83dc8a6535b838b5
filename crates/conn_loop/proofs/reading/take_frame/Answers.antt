-- Each exit is a lemma.
use Rattle.std.proofs.Common.{refl}
use Rattle.conn_loop.proofs.RoundLemmas.{is-at, frame-goes, frame-ends}
use Rattle.conn_loop.proofs.LeavingLemmas.{frame-breaks}
use Rattle.conn_loop.proofs.reading.take_frame.Goals as goal

pub returns-in-Goes-clause-takes : goal.returns-in-Goes-clause-takes
returns-in-Goes-clause-takes g c passes0 old h =
    let e = rw c.in-Goes.is at (c.heed-passes.ensures.heeds h.going.played (is-at _ _ _ _ _ _ _ _ h.going)) in
    frame-goes _ passes0 _ old _ _ _ _ _ h _ refl refl _ _ _ e

pub returns-in-Breaks-clause-takes : goal.returns-in-Breaks-clause-takes
returns-in-Breaks-clause-takes g c passes0 old h =
    let e = rw c.in-Breaks.is at (c.heed-passes.ensures.heeds h.going.played (is-at _ _ _ _ _ _ _ _ h.going)) in
    rw (e.2, e.3) (c.leave-ending.ensures.leaves _ _ passes0 _ old (frame-breaks _ passes0 _ old _ _ _ _ _ _ _ h e.0 e.1))

pub returns-in-Memory-clause-takes : goal.returns-in-Memory-clause-takes
returns-in-Memory-clause-takes g c passes0 old h =
    let e = rw c.in-Memory.is at (c.heed-passes.ensures.heeds h.going.played (is-at _ _ _ _ _ _ _ _ h.going)) in
    frame-ends _ passes0 _ old _ _ _ _ _ h _ refl refl _ e
