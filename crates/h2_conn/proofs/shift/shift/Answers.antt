-- The pairs leave the initial size as it was, or one that fits.
use Rattle.std.proofs.Common.{◌≡◌, ℕ, ◌<◌, ◌^◌, ◌-ℤ◌, pos, is_some, false, inl, inr, refl, sym, subst, ◌∙◌}
use Rattle.h2_streams.specs.Shifts.{first_above}
use Rattle.h2_conn.proofs.ShiftLemmas.{last-fits, last-small, shifted-same}
use Rattle.h2_conn.proofs.shift.shift.Goals as goal

pub shift_to-requires-clause-fits : goal.shift_to-requires-clause-fits
shift_to-requires-clause-fits c =
    let book = c.args.streams.now in
    let last = c.initial_after-last.ensures in
    elim (last-fits book c.args.initial c.args.initial c.args.pairs.now (sym c.if-any_too_large.ensures) (inl refl)) [
      | inl same ↦ absurd (c.if-last-initial.true (last ∙ same))
      | inr fits ↦ subst (λ (n : ℕ). is_some (first_above book (pos n -ℤ pos c.args.initial)) ≡ false) (sym last) fits
    ]

pub shift_to-requires-clause-last : goal.shift_to-requires-clause-last
shift_to-requires-clause-last c = subst (λ (n : ℕ). n < 2 ^ 31) (sym c.initial_after-last.ensures) (last-small c.args.initial c.args.pairs.now c.requires.good c.requires.small)

pub returns-else-last-initial : goal.returns-else-last-initial
returns-else-last-initial c =
    (sym c.if-any_too_large.ensures, c.initial_after-last.ensures, shifted-same c.args.streams.now c.initial_after-last.result c.args.initial c.if-last-initial.false)
