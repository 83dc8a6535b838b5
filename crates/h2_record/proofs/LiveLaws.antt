-- What is known of a stream that lives.
use Rattle.std.proofs.Common.{◌≡◌, ℕ, ◌<◌, ◌≤◌, nat_lt, ◌==◌, Bool, true, false, not, ◌&&◌, List, [], ◌∷◌, ◌++◌, refl, sym, ap, ◌∙◌, arith, true≢false, if◌then◌else◌}
use Rattle.std.proofs.lemmas.Bool.Decides.{nat_tests}
use Rattle.h2_record.specs.Record.{Record, any_in, any_out}
use Rattle.h2_record.specs.Ids.{last_of}
use Rattle.h2_record.specs.Live.{Reset, opens, ends, finishes, cancels, is_reset, is_live_with}
use Rattle.h2_record.specs.Resets.{resets_of, is_live}
use Rattle.h2_record.specs.Texts.{codes_on}
use Rattle.h2_record.proofs.BoolLemmas.{or-first, or-second, and-first, and-second, by-test}
use Rattle.h2_record.proofs.LiveLemmas.{unopened}

-- a live stream was opened, and neither side has reset it
pub live-opened : (resets : List Reset) (r : Record) (id : ℕ) → is_live_with resets r id ≡ true → any_in (opens id) r ≡ true
unfolding is_live_with
live-opened resets r id live =
    let a = any_in (opens id) r in
    let b = not (0 == id) in
    let c = not (is_reset resets id) in
    let d = not (any_in (cancels id) r) in
    let e = not (any_in (ends id) r && any_out (finishes id) r) in
    and-first a b (and-first (a && b) c (and-first (a && b && c) d (and-first (a && b && c && d) e live)))

not-true : (b : Bool) → not b ≡ true → b ≡ false
not-true true h = absurd (true≢false (sym h))
not-true false h = refl

pub live-unreset : (resets : List Reset) (r : Record) (id : ℕ) → is_live_with resets r id ≡ true → is_reset resets id ≡ false
unfolding is_live_with
live-unreset resets r id live =
    let a = any_in (opens id) r in
    let b = not (0 == id) in
    let c = not (is_reset resets id) in
    let d = not (any_in (cancels id) r) in
    let e = not (any_in (ends id) r && any_out (finishes id) r) in
    not-true (is_reset resets id) (and-second (a && b) c (and-first (a && b && c) d (and-first (a && b && c && d) e live)))

pub live-within : (r : Record) (id : ℕ) → is_live r id ≡ true → id ≤ last_of r
live-within r id live = by-test (nat_lt (last_of r) id)
    (λ above. let h : last_of r < id = grind (arith, nat_tests) in absurd (true≢false (sym (live-opened (resets_of r) r id live) ∙ unopened r id h)))
    (λ below. grind (arith, nat_tests))

-- no reset is due on it
pub codes-none : (resets : List Reset) (id : ℕ) → is_reset resets id ≡ false → codes_on resets id ≡ []
codes-none [] id none = refl
codes-none (reset ∷ resets) id none =
    ap (λ b. if b then codes_on resets id ++ reset.code ∷ [] else codes_on resets id) (or-first (id == reset.stream) (is_reset resets id) none)
    ∙ codes-none resets id (or-second (id == reset.stream) (is_reset resets id) none)
