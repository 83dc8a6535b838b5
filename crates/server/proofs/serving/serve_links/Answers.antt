-- The workers are made, serve beside the thread that asks, and are joined.
use Rattle.std.proofs.Common.{ap, ◌∙◌, arith}
use Rattle.job_queue.specs.Hands.{IsOf}
use Rattle.server.proofs.DoorLemmas.{leaves}
use Rattle.server.proofs.FinishLemmas.{ok_of, asks_ok, crew_ready, after_theirs, after_hands, after_takers, after_parts, after_links, after_length, after_did}
use Rattle.server.proofs.serving.serve_links.Goals as goal

pub serve_beside-worked-requires-clause-ready : goal.serve_beside-worked-requires-clause-ready
serve_beside-worked-requires-clause-ready g c κs within =
    crew_ready _ _ _ _ _ _ _ _ _ _ c.in_ok-crew.ensures.crew (λ worker. IsOf c.in-Ok.queue worker.hand) c.in_ok-crew.ensures.hands

pub finish-finished-requires-clause-some : goal.finish-finished-requires-clause-some
finish-finished-requires-clause-some g c =
    let works = ok_of _ _ _ c.in-Ok-worked.is c.serve_beside-worked.ensures.works in
    let count = after_length _ _ _ _ _ _ g.C.Clock.readings _ _ _ _ _ _ _ (λ worker. IsOf c.in-Ok.queue worker.hand) c.in_ok-crew.ensures.crew works in
    omega (arith, count, c.in-Ok-worked.crew.ok.0, c.requires.workers)

pub finish-finished-requires-clause-theirs : goal.finish-finished-requires-clause-theirs
finish-finished-requires-clause-theirs g c =
    let works = ok_of _ _ _ c.in-Ok-worked.is c.serve_beside-worked.ensures.works in
    after_theirs _ _ _ _ _ _ g.C.Clock.readings _ _ _ _ _ _ _ (λ worker. IsOf c.in-Ok.queue worker.hand) c.in_ok-crew.ensures.crew works

pub finish-finished-requires-clause-hands : goal.finish-finished-requires-clause-hands
finish-finished-requires-clause-hands g c =
    let works = ok_of _ _ _ c.in-Ok-worked.is c.serve_beside-worked.ensures.works in
    after_hands _ _ _ _ _ _ g.C.Clock.readings _ _ _ _ _ _ _ (λ worker. IsOf c.in-Ok.queue worker.hand) c.in_ok-crew.ensures.crew works

pub finish-finished-requires-clause-takers : goal.finish-finished-requires-clause-takers
finish-finished-requires-clause-takers g c =
    let works = ok_of _ _ _ c.in-Ok-worked.is c.serve_beside-worked.ensures.works in
    after_takers _ _ _ _ _ _ g.C.Clock.readings _ _ _ _ _ _ _ (λ worker. IsOf c.in-Ok.queue worker.hand) c.in_ok-crew.ensures.crew works

pub finish-finished-requires-clause-parts : goal.finish-finished-requires-clause-parts
finish-finished-requires-clause-parts g c =
    let works = ok_of _ _ _ c.in-Ok-worked.is c.serve_beside-worked.ensures.works in
    after_parts _ _ _ _ _ _ g.C.Clock.readings _ _ _ _ _ _ _ (λ worker. IsOf c.in-Ok.queue worker.hand) c.in_ok-crew.ensures.crew works

pub finish-finished-requires-clause-links : goal.finish-finished-requires-clause-links
finish-finished-requires-clause-links g c =
    let works = ok_of _ _ _ c.in-Ok-worked.is c.serve_beside-worked.ensures.works in
    after_links _ _ _ _ _ _ g.C.Clock.readings _ _ _ _ _ _ _ (λ worker. IsOf c.in-Ok.queue worker.hand) c.in_ok-crew.ensures.crew works

pub finish-finished-requires-clause-hand : goal.finish-finished-requires-clause-hand
finish-finished-requires-clause-hand g c =
    let works = ok_of _ _ _ c.in-Ok-worked.is c.serve_beside-worked.ensures.works in
    let count = after_length _ _ _ _ _ _ g.C.Clock.readings _ _ _ _ _ _ _ (λ worker. IsOf c.in-Ok.queue worker.hand) c.in_ok-crew.ensures.crew works in
    let hand = c.serve_beside-worked.ensures.hand in
    let all = ap (λ v. v.parts) c.in-Ok.ensures.known in (
      hand.0,
      omega (arith, count, c.in-Ok-worked.crew.ok.0, hand.1, c.in_ok-crew.ensures.parts, all),
      omega (arith, hand.1, c.in_ok-crew.ensures.parts, all, c.ranges.workers.fits),
    )

pub returns-clause-serves : goal.returns-clause-serves
returns-clause-serves g c =
    let works = ok_of _ _ _ c.in-Ok-worked.is c.serve_beside-worked.ensures.works in
    let did = after_did _ _ _ _ _ _ g.C.Clock.readings _ _ _ _ _ _ _ (λ worker. IsOf c.in-Ok.queue worker.hand) c.in_ok-crew.ensures.crew works in
    let put = c.in_ok-crew.ensures.put ∙ ap (λ v. v.put) c.in-Ok.ensures.known in
    let taken = c.serve_beside-worked.ensures.hand.3 ∙ c.in_ok-crew.ensures.taken ∙ ap (λ v. v.taken) c.in-Ok.ensures.known in
    let asks = asks_ok _ _ _ _ _ _ _ _ c.in_ok-asked-2.was put c.serve_beside-worked.ensures.asks in
    leaves _ _ _ _ _ _ _ g.C.Clock.readings _ _ _ _ _ _ _ _ _ _ _ _ _ c.in_ok-crew.ensures.crew did asks taken c.in_ok-finished.ensures.finished c.requires.alone
