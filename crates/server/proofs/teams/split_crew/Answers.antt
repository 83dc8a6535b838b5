-- One worker more.
use Rattle.std.proofs.Common.{◌≡◌, [], ap, ◌∙◌, refl, arith}
use Rattle.std.proofs.lemmas.List.Elements.{All-push, All-same}
use Rattle.job_queue.specs.Hands.{IsOf, known}
use Rattle.job_queue.specs.Queue.{taker}
use Rattle.server.proofs.HandLemmas.{more_made}
use Rattle.server.proofs.teams.split_crew.Goals as goal

pub loop-made-preserved : goal.loop-made-preserved
loop-made-preserved g c =
    let inv = c.loop-made.invariant in
    let known_is = c.another.ensures.known in
    let parts = ap (λ v. v.parts) known_is in
    let pushed = c.push_reserved.ensures.items in
    let split = c.in_ok-kept.ensures in (
      c.another.ensures.hand,
      omega (arith, parts, inv.1, c.loop-made-test.true, c.requires.parts),
      ap (λ v. v.puts) known_is ∙ inv.2,
      ap (λ v. v.put) known_is ∙ inv.3,
      ap (λ v. v.taken) known_is ∙ inv.4,
      omega (arith, c.push_reserved.ensures.len, inv.5),
      omega (arith, c.push_reserved.ensures.capacity, inv.6),
      more_made (λ worker. worker.passes) _ _ _ _ _ _ _ _ pushed refl split.splits split.theirs.0 split.theirs.1 inv.7,
      All-same (λ worker. IsOf c.args.queue.now worker.hand) c.push_reserved.new.self.items _ pushed
          (All-push (λ worker. IsOf c.args.queue.now worker.hand) c.loop-made.others.items _ inv.8 c.another.ensures.new),
      All-same (λ worker. (known worker.hand ≡ taker) × (worker.links.items ≡ [])) c.push_reserved.new.self.items _ pushed
          (All-push (λ worker. (known worker.hand ≡ taker) × (worker.links.items ≡ [])) c.loop-made.others.items _ inv.9 (c.another.ensures.taker, c.new.ensures.items)),
      All-same (λ worker. g.C.Clone.is_clone c.args.clock.now worker.clock) c.push_reserved.new.self.items _ pushed
          (All-push (λ worker. g.C.Clone.is_clone c.args.clock.now worker.clock) c.loop-made.others.items _ inv.10 c.in_ok-clone.ensures.cases),
    )
