use Rattle.std.proofs.Common.{◌≡◌, max, ◌||◌, Some, unwrap_or, refl, sym, ap, ◌∙◌, subst, rules, arith, ⊎_elim, inl, inr}
use Rattle.turn_table.specs.View.{View}
use Rattle.turn_table.specs.Rule.{part_of, Ordered, Sat, meaning, longer, shown, with_both}
use Rattle.turn_table.proofs.ListLemmas.{longer_is}
use Rattle.turn_table.proofs.RuleLemmas.{joins, learns, splits}
use Rattle.turn_table.proofs.ViewLemmas.{joined, neither}
use Rattle.turn_table.proofs.turn.Turn.meet.Goals as goal

pub join_seat-requires : goal.join_seat-requires
join_seat-requires g c =
    let k = meaning g.M.Machine.history g.M.Machine.fixed g.M.Machine.caller_of g.M.Machine.takes g.M.Machine.allows in
    let same : (part_of g.M.Machine.anything c.b.inside.seat) ≡ (part_of g.M.Machine.anything c.a.inside.seat) =
    (ap (λ p. p.fixed) c.b.view_is ∙ c.requires.second.same) ∙ sym (ap (λ p. p.fixed) c.a.view_is ∙ c.requires.first.same) in (
      search rules,
      search rules,
      search rules,
      search rules,
      joins k (g.M.Machine.fixed c.self.inside.table.shared.key.value) _ _ _ _ (part_of g.M.Machine.anything c.a.inside.seat) c.a.invariant.idle c.b.invariant.idle c.a.invariant.live
          (c.b.invariant.live ∙ ap (λ part. Some part) same),
    )

pub load-requires : goal.load-requires
load-requires g c =
    let k = meaning g.M.Machine.history g.M.Machine.fixed g.M.Machine.caller_of g.M.Machine.takes g.M.Machine.allows in
    let both = c.join_seat.ensures.2 in (
      search rules,
      search rules,
      learns k (g.M.Machine.fixed c.self.inside.table.shared.key.value) _ _ _ with_both c.a.inside.seat.me.0.seen c.b.inside.seat.me.0.seen (part_of g.M.Machine.anything c.a.inside.seat)
          (ap (λ m. m.0.stage) both) (ap (λ m. m.0.fixed) both ∙ c.a.invariant.live) (λ n q. q),
    )

pub split_seat-other-requires : goal.split_seat-other-requires
split_seat-other-requires g c =
    let k = meaning g.M.Machine.history g.M.Machine.fixed g.M.Machine.caller_of g.M.Machine.takes g.M.Machine.allows in
    let v = c.a.inside.seat.me.0 in let w = c.b.inside.seat.me.0 in
    let both = c.join_seat.ensures.2 in let learned = c.load.ensures.2 in
    let ordered = learned.1 v.seen w.seen (ap (λ m. m.0.stage) both) in (
      search rules,
      search rules,
      splits k (g.M.Machine.fixed c.self.inside.table.shared.key.value) _ _ w.first (part_of g.M.Machine.anything c.a.inside.seat)
          (ap (λ m. m.0.stage) learned.0) (ap (λ m. m.0.second) learned.0 ∙ ap (λ m. m.0.second) both) (ap (λ m. m.0.alone) learned.0 ∙ ordered.alone)
          (ap (λ m. m.0.fixed) learned.0 ∙ (ap (λ m. m.0.fixed) both ∙ c.a.invariant.live)),
    )

pub returns-clause-first : goal.returns-clause-first
returns-clause-first g c =
    let k = meaning g.M.Machine.history g.M.Machine.fixed g.M.Machine.caller_of g.M.Machine.takes g.M.Machine.allows in
    let v = c.a.inside.seat.me.0 in let w = c.b.inside.seat.me.0 in
    let both = c.join_seat.ensures.2 in let learned = c.load.ensures.2 in let cut = c.split_seat-other.ensures.2 in
    let ordered = subst (λ (m : Sat g.row.M.Denot g.row.M-Entry.Denot g.row.M-Fixed.Denot). Ordered k m.0 v.seen w.seen) both (learned.1 v.seen w.seen (ap (λ m. m.0.stage) both)) in
    let alone = neither v.alone w.alone ordered.alone in
    let a : View g.row.M-Entry.Denot g.row.M-Fixed.Denot = shown g.M.Machine.anything c.a.inside.number c.a.inside.seat in
    let b : View g.row.M-Entry.Denot g.row.M-Fixed.Denot = shown g.M.Machine.anything c.b.inside.number c.b.inside.seat in
    let see : Sat g.row.M.Denot g.row.M-Entry.Denot g.row.M-Fixed.Denot → View g.row.M-Entry.Denot g.row.M-Fixed.Denot = λ s. record a { bound = s.0.bound; alone = s.0.alone; fixed = unwrap_or s.0.fixed g.M.Machine.anything; seen = s.0.seen } in
    rw (← c.a.view_is) (rw (← c.b.view_is)
    (joined g.M.Machine.caller_of a b _ (longer v.seen w.seen) (max v.bound w.bound) (v.alone || w.alone)
    (rw c.a.invariant.numbered at ordered.first) (rw c.b.invariant.numbered at (ordered.second w.first refl)) (longer_is v.seen w.seen) alone.0 alone.1 refl ordered.alone
    ((λ i. record (see c.split_seat-other.new.seat.me) { table = (c.split_seat-other.ensures.0 ∙ (c.load.ensures.0 ∙ c.join_seat.ensures.0)) i }) ∙ (ap see cut ∙ (ap see learned.0 ∙ ap see both)))))

pub returns-clause-second : goal.returns-clause-second
returns-clause-second g c =
    let k = meaning g.M.Machine.history g.M.Machine.fixed g.M.Machine.caller_of g.M.Machine.takes g.M.Machine.allows in
    let v = c.a.inside.seat.me.0 in let w = c.b.inside.seat.me.0 in
    let both = c.join_seat.ensures.2 in let learned = c.load.ensures.2 in let cut = c.split_seat-other.ensures.4 in
    let ordered = subst (λ (m : Sat g.row.M.Denot g.row.M-Entry.Denot g.row.M-Fixed.Denot). Ordered k m.0 v.seen w.seen) both (learned.1 v.seen w.seen (ap (λ m. m.0.stage) both)) in
    let alone = neither v.alone w.alone ordered.alone in
    let a : View g.row.M-Entry.Denot g.row.M-Fixed.Denot = shown g.M.Machine.anything c.a.inside.number c.a.inside.seat in
    let b : View g.row.M-Entry.Denot g.row.M-Fixed.Denot = shown g.M.Machine.anything c.b.inside.number c.b.inside.seat in
    let see : Sat g.row.M.Denot g.row.M-Entry.Denot g.row.M-Fixed.Denot → View g.row.M-Entry.Denot g.row.M-Fixed.Denot = λ s. record b { bound = s.0.bound; alone = s.0.alone; fixed = unwrap_or s.0.fixed g.M.Machine.anything; seen = s.0.seen } in
    let one = (ap (λ p. p.table) c.a.view_is ∙ c.requires.first.table) ∙ sym (ap (λ p. p.table) c.b.view_is ∙ c.requires.second.table) in
    let same = (ap (λ p. p.fixed) c.a.view_is ∙ c.requires.first.same) ∙ sym (ap (λ p. p.fixed) c.b.view_is ∙ c.requires.second.same) in
    let greater : max v.bound w.bound ≡ max w.bound v.bound = omega arith in
    rw (← c.a.view_is) (rw (← c.b.view_is)
    (joined g.M.Machine.caller_of b a _ (longer v.seen w.seen) (max v.bound w.bound) (v.alone || w.alone)
    (rw c.b.invariant.numbered at (ordered.second w.first refl)) (rw c.a.invariant.numbered at ordered.first) (⊎_elim inr inl (longer_is v.seen w.seen)) alone.1 alone.0 greater ordered.alone
    ((λ i. record (see c.split_seat-other.result.me) { table = (c.split_seat-other.ensures.3 ∙ ((c.load.ensures.0 ∙ c.join_seat.ensures.0) ∙ one)) i }) ∙ (ap see cut ∙ (ap see learned.0 ∙ (ap see both
    ∙ (λ i. record b { bound = max v.bound w.bound; alone = v.alone || w.alone; fixed = same i; seen = longer v.seen w.seen })))))))
