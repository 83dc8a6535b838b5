-- One list after another is handed back.
use Rattle.std.proofs.Common.{sym, ap, ◌∙◌, flat_map}
use Rattle.server.proofs.HandLemmas.{none_handed, room_for, some_handed, all_handed, first_list, no_lists}
use Rattle.server.proofs.finishing.hand_back_all.Goals as goal

pub loop-links-init : goal.loop-links-init
loop-links-init g c = (tt, tt, none_handed _ _ _ _ _ _ (ap (flat_map (λ links. links.items)) c.into_iter-links-iterator.ensures.into_iter_gives.0) c.requires)

pub hand_back-requires : goal.hand_back-requires
hand_back-requires g c =
    room_for _ _ _ _ _ _ _ _ _ _ _ _ (first_list (λ links. links.items) _ c.in-Some.links _ c.in-Some.ensures.steps.0) c.loop-links.invariant.2

pub loop-links-preserved : goal.loop-links-preserved
loop-links-preserved g c =
    let back = c.hand_back.ensures in (
      tt,
      tt,
      some_handed _ _ _ _ _ _ _ _ _ _ _ _ (first_list (λ links. links.items) _ c.in-Some.links _ c.in-Some.ensures.steps.0) _ _ _ _ back.left back.handed back.out back.faults
          c.loop-links.invariant.2,
    )

pub returns : goal.returns
returns g c =
    let none = no_lists (λ links. links.items) _ (sym c.loop-links.links-iterator.rest.ok.0 ∙ c.in-None.ensures.steps.0) in
    let all = all_handed _ _ _ _ _ _ _ _ _ _ none c.loop-links.invariant.2 in
    record { left = all.0; handed = all.1; out = all.2; faults = all.3 }
