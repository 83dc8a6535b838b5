-- One worker after another is joined.
use Rattle.std.proofs.Common.{◌≡◌, false, sym, ap, ◌∙◌, refl, arith}
use Rattle.std.proofs.lemmas.List.Elements.{All-head, All-tail, All-same}
use Rattle.open_tables.specs.Tables.{AreTheirs}
use Rattle.job_queue.specs.Hands.{IsOf, known}
use Rattle.server.proofs.HandLemmas.{none_gathered, one_gathered, all_gathered, no_rest}
use Rattle.server.proofs.finishing.gather.Goals as goal

pub loop-other-init : goal.loop-other-init
loop-other-init g c =
    let rest = c.into_iter-other-iterator.ensures.into_iter_gives.0 in (
      tt,
      tt,
      c.requires.first,
      c.requires.hand,
      All-same (λ worker. AreTheirs c.args.tables.now worker.passes) _ c.args.others.items rest c.requires.theirs,
      All-same (λ worker. IsOf c.args.queue.now worker.hand) _ c.args.others.items rest c.requires.hands,
      All-same (λ worker. (known worker.hand).puts ≡ false) _ c.args.others.items rest c.requires.takers,
      none_gathered _ _ _ _ _ _ _ _ _ rest c.in_ok-lists.ensures.items,
    )

pub join_all-requires-clause-keep : goal.join_all-requires-clause-keep
join_all-requires-clause-keep g c = c.loop-other.invariant.2

pub join_all-requires-clause-give : goal.join_all-requires-clause-give
join_all-requires-clause-give g c = All-head (λ worker. AreTheirs c.args.tables.now worker.passes) c.in-Some.other _ (All-same (λ worker. AreTheirs c.args.tables.now worker.passes) _ c.loop-other.other-iterator.rest.items (sym c.in-Some.ensures.steps.0) c.loop-other.invariant.4)

pub join-requires-clause-hand : goal.join-requires-clause-hand
join-requires-clause-hand g c = c.loop-other.invariant.3.0

pub join-requires-clause-other : goal.join-requires-clause-other
join-requires-clause-other g c = All-head (λ worker. IsOf c.args.queue.now worker.hand) c.in-Some.other _ (All-same (λ worker. IsOf c.args.queue.now worker.hand) _ c.loop-other.other-iterator.rest.items (sym c.in-Some.ensures.steps.0) c.loop-other.invariant.5)

pub join-requires-clause-parts : goal.join-requires-clause-parts
join-requires-clause-parts g c = c.loop-other.invariant.3.1

pub join-requires-clause-taker : goal.join-requires-clause-taker
join-requires-clause-taker g c = All-head (λ worker. (known worker.hand).puts ≡ false) c.in-Some.other _ (All-same (λ worker. (known worker.hand).puts ≡ false) _ c.loop-other.other-iterator.rest.items (sym c.in-Some.ensures.steps.0) c.loop-other.invariant.6)

pub loop-other-preserved : goal.loop-other-preserved
loop-other-preserved g c =
    let inv = c.loop-other.invariant in
    let steps = c.in-Some.ensures.steps.0 in
    let parts = ap (λ v. v.parts) c.join.ensures.known in (
      tt,
      tt,
      c.in_ok-passes.ensures.theirs,
      (c.join.ensures.hand, omega (arith, parts, inv.3.1)),
      All-tail (λ worker. AreTheirs c.args.tables.now worker.passes) c.in-Some.other _ (All-same (λ worker. AreTheirs c.args.tables.now worker.passes) _ c.loop-other.other-iterator.rest.items (sym steps) inv.4),
      All-tail (λ worker. IsOf c.args.queue.now worker.hand) c.in-Some.other _ (All-same (λ worker. IsOf c.args.queue.now worker.hand) _ c.loop-other.other-iterator.rest.items (sym steps) inv.5),
      All-tail (λ worker. (known worker.hand).puts ≡ false) c.in-Some.other _ (All-same (λ worker. (known worker.hand).puts ≡ false) _ c.loop-other.other-iterator.rest.items (sym steps) inv.6),
      one_gathered _ _ _ _ _ _ _ _ _ _ _ _ _ steps _ c.in-Some.other.links _ _ c.in_ok-passes.ensures.joins refl c.in_ok-push.ensures.items c.join.ensures.known inv.7,
    )

pub returns : goal.returns
returns g c =
    let inv = c.loop-other.invariant in
    let all = all_gathered _ _ _ _ _ _ _ _ _ _ _ (no_rest _ (sym c.loop-other.other-iterator.rest.ok.0 ∙ c.in-None.ensures.steps.0)) inv.7 in
    record { theirs = inv.2; passes = all.0; links = all.1; hand = inv.3.0; known = all.2 }
