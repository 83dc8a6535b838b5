-- One link after another is handed back.
use Rattle.std.proofs.Common.{◌∷◌, [], sym, ◌∙◌}
use Rattle.server.proofs.HandLemmas.{none_handed, room_for, some_handed, all_handed, no_rest}
use Rattle.server.proofs.finishing.hand_back.Goals as goal

pub loop-link-init : goal.loop-link-init
loop-link-init g c = (tt, tt, none_handed _ _ _ _ _ _ c.into_iter-link-iterator.ensures.into_iter_gives.0 c.requires)

pub back-requires : goal.back-requires
back-requires g c = room_for _ _ _ _ _ _ _ _ _ _ (c.in-Some.link ∷ []) _ c.in-Some.ensures.steps.0 c.loop-link.invariant.2

pub loop-link-preserved : goal.loop-link-preserved
loop-link-preserved g c =
    let back = c.back.ensures in
    (tt, tt, some_handed _ _ _ _ _ _ _ _ _ _ (c.in-Some.link ∷ []) _ c.in-Some.ensures.steps.0 _ _ _ _ back.left back.handed back.out back.faults c.loop-link.invariant.2)

pub returns : goal.returns
returns g c =
    let all = all_handed _ _ _ _ _ _ _ _ _ _ (no_rest _ (sym c.loop-link.link-iterator.rest.ok.0 ∙ c.in-None.ensures.steps.0)) c.loop-link.invariant.2 in
    record { left = all.0; handed = all.1; out = all.2; faults = all.3 }
