use Rattle.std.proofs.Common.{◌≡◌, max, ◌||◌, Some, unwrap_or, refl, sym, ap, ◌∙◌, subst, rules}
use Rattle.turn_table.specs.View.{View}
use Rattle.turn_table.specs.Rule.{part_of, Ordered, Sat, meaning, longer, shown, with_first}
use Rattle.turn_table.proofs.ListLemmas.{none_some, longer_is}
use Rattle.turn_table.proofs.RuleLemmas.{joins, learns}
use Rattle.turn_table.proofs.ViewLemmas.{joined, neither}
use Rattle.turn_table.proofs.turn.Turn.join_pass.Goals as goal

pub join_seat-requires : goal.join_seat-requires
join_seat-requires g c =
    let k = meaning g.M.Machine.history g.M.Machine.fixed g.M.Machine.caller_of g.M.Machine.takes g.M.Machine.allows in
    let same : (part_of g.M.Machine.anything c.give.inside.seat) ≡ (part_of g.M.Machine.anything c.keep.inside.seat) =
    (ap (λ p. p.fixed) c.give.view_is ∙ c.requires.give.same) ∙ sym (ap (λ p. p.fixed) c.keep.view_is ∙ c.requires.keep.same) in (
      search rules,
      search rules,
      search rules,
      search rules,
      joins k (g.M.Machine.fixed c.self.inside.table.shared.key.value) _ _ _ _ (part_of g.M.Machine.anything c.keep.inside.seat) c.keep.invariant.idle c.give.invariant.idle c.keep.invariant.live
          (c.give.invariant.live ∙ ap (λ part. Some part) same),
    )

pub load-requires : goal.load-requires
load-requires g c =
    let k = meaning g.M.Machine.history g.M.Machine.fixed g.M.Machine.caller_of g.M.Machine.takes g.M.Machine.allows in
    let both = c.join_seat.ensures.2 in (
      search rules,
      search rules,
      learns k (g.M.Machine.fixed c.self.inside.table.shared.key.value) _ _ _ with_first c.keep.inside.seat.me.0.seen c.give.inside.seat.me.0.seen (part_of g.M.Machine.anything c.keep.inside.seat)
          (ap (λ m. m.0.stage) both) (ap (λ m. m.0.fixed) both ∙ c.keep.invariant.live) (λ n q. absurd (none_some n q)),
    )

pub returns-clause-joins : goal.returns-clause-joins
returns-clause-joins g c =
    let k = meaning g.M.Machine.history g.M.Machine.fixed g.M.Machine.caller_of g.M.Machine.takes g.M.Machine.allows in
    let v = c.keep.inside.seat.me.0 in let w = c.give.inside.seat.me.0 in
    let both = c.join_seat.ensures.2 in let learned = c.load.ensures.2 in
    let ordered = subst (λ (m : Sat g.row.M.Denot g.row.M-Entry.Denot g.row.M-Fixed.Denot). Ordered k m.0 v.seen w.seen) both (learned.1 v.seen w.seen (ap (λ m. m.0.stage) both)) in
    let alone = neither v.alone w.alone ordered.alone in
    let keep : View g.row.M-Entry.Denot g.row.M-Fixed.Denot = shown g.M.Machine.anything c.keep.inside.number c.keep.inside.seat in
    let give : View g.row.M-Entry.Denot g.row.M-Fixed.Denot = shown g.M.Machine.anything c.give.inside.number c.give.inside.seat in
    let see : Sat g.row.M.Denot g.row.M-Entry.Denot g.row.M-Fixed.Denot → View g.row.M-Entry.Denot g.row.M-Fixed.Denot = λ s. record keep { bound = s.0.bound; alone = s.0.alone; fixed = unwrap_or s.0.fixed g.M.Machine.anything; seen = s.0.seen } in
    rw (← c.keep.view_is) (rw (← c.give.view_is)
    (joined g.M.Machine.caller_of keep give _ (longer v.seen w.seen) (max v.bound w.bound) (v.alone || w.alone)
    (rw c.keep.invariant.numbered at ordered.first) (rw c.give.invariant.numbered at (ordered.second w.first refl)) (longer_is v.seen w.seen) alone.0 alone.1 refl ordered.alone
    ((λ i. record (see c.load.new.seat.me) { table = (c.load.ensures.0 ∙ c.join_seat.ensures.0) i }) ∙ (ap see learned.0 ∙ ap see both))))
