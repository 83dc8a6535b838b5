-- Each job that is taken is served.
use Rattle.std.proofs.Common.{◌∙◌, ◌++◌, ◌∷◌, [], ap, refl}
use Rattle.server.proofs.WorkLemmas.{no_work, more_work}
use Rattle.server.proofs.workers.work.Goals as goal

pub loop-init : goal.loop-init
loop-init g c = (c.requires.theirs, c.requires.hand, refl, refl, refl, (λ alone. alone), no_work _ _ _ _ _ _ _)

pub loop-preserved : goal.loop-preserved
loop-preserved g c =
    let inv = c.loop.invariant in
    let takes = c.in-Some-take.ensures.takes in
    let links = c.push_reserved.ensures.items ∙ ap (λ xs. xs ++ c.serve_link-after.result.1 ∷ []) c.reserve.ensures.items in (
      c.serve_link-after.ensures.theirs,
      c.in-Some-take.ensures.hand,
      ap (λ v. v.parts) takes ∙ inv.2,
      ap (λ v. v.puts) takes ∙ inv.3,
      ap (λ v. v.put) takes ∙ inv.4,
      (λ alone. c.serve_link-after.ensures.alone (inv.5 alone)),
      more_work _ _ _ _ _ _ _ _ _ _ _ _ _ _ _ c.in-Some-take.job _ links (ap (λ v. v.taken) takes) c.serve_link-after.ensures.served inv.6,
    )
