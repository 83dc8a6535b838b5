-- On lists: where no element fails a test, all pass it; and a filter keeps what passes.
use Rattle.std.proofs.Common.{◌≡◌, ℕ, ◌+◌, ◌<◌, ◌≤◌, zero, suc, Bool, true, false, List, [], ◌∷◌, length, Some, None, cond, refl, subst, arith}
use Rattle.std.specs.Prelude.{not, position, filter, nat_lt}
use Rattle.std.specs.List.{list_all, prefix_len, range_with_len}
use Rattle.std.proofs.lemmas.Bool.{ltb-false}

-- one more element in front of those that pass
passes_first : {X : Type 0} (p : X → Bool) (x : X) (xs : List X) (b : Bool) → p x ≡ b →
    suc (length xs) ≤ cond (not (not b)) (1 + prefix_len (λ y. not (not (p y))) xs) 0 → (b ≡ true) × (length xs ≤ prefix_len (λ y. not (not (p y))) xs)
passes_first p x xs true e h = (refl, omega arith)
passes_first p x xs false e h = absurd (omega arith)

-- the front that passes is all
pub list_all-prefix : {X : Type 0} (p : X → Bool) (xs : List X) → length xs ≤ prefix_len (λ x. not (not (p x))) xs → list_all p xs ≡ true
list_all-prefix p [] h = refl
list_all-prefix p (x ∷ xs) h =
    let both : (p x ≡ true) × (length xs ≤ prefix_len (λ y. not (not (p y))) xs) = passes_first p x xs (p x) refl h in
    rw both.0 (list_all-prefix p xs both.1)

none_left : (t : Bool) (i : ℕ) → cond t (Some i) None ≡ None → t ≡ false
none_left true i e = cc
none_left false i e = refl

-- `position` finds no element that fails
pub list_all-position : {X : Type 0} (p : X → Bool) (xs : List X) → position (λ x. not (p x)) xs ≡ None → list_all p xs ≡ true
list_all-position p xs e = list_all-prefix p xs (ltb-false _ _ (none_left _ _ e))

head_fails : (b : Bool) (m n : ℕ) → cond (nat_lt (cond (not b) m 0) (suc n)) (Some (cond (not b) m 0)) None ≡ None → b ≡ false
head_fails true m n e = let none : suc n ≤ 0 = ltb-false _ _ (none_left _ _ e) in absurd (omega arith)
head_fails false m n e = refl

-- `position` finds nothing, so the first element fails the test
pub position-head : {X : Type 0} (p : X → Bool) (x : X) (xs : List X) → position p (x ∷ xs) ≡ None → p x ≡ false
position-head p x xs e = head_fails (p x) (1 + prefix_len (λ y. not (p y)) xs) (length xs) e

kept_first : (p : ℕ → Bool) (a : ℕ) (more : List ℕ) (b : Bool) → b ≡ true → 0 < length (cond b (a ∷ more) more)
kept_first p a more true e = omega arith
kept_first p a more false e = cc

kept_later : (p : ℕ → Bool) (a : ℕ) (more : List ℕ) (b : Bool) → 0 < length more → 0 < length (cond b (a ∷ more) more)
kept_later p a more true h = omega arith
kept_later p a more false h = h

-- a filter of numbers that count up keeps some where one of them passes
pub filter-some : (p : ℕ → Bool) (a n i : ℕ) → i < n → p (a + i) ≡ true → 0 < length (filter p (range_with_len a n))
filter-some p a zero i h e = absurd (omega arith)
filter-some p a (suc n) zero h e = kept_first p a (filter p (range_with_len (a + 1) n)) (p a) (let same : a + 0 ≡ a = omega arith in subst (λ k. p k ≡ true) same e)
filter-some p a (suc n) (suc i) h e =
    kept_later p a (filter p (range_with_len (a + 1) n)) (p a)
    (filter-some p (a + 1) n i (omega arith) (let same : a + suc i ≡ a + 1 + i = omega arith in subst (λ k. p k ≡ true) same e))
