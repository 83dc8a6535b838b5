-- Symbols and their codes, both ways.
use Rattle.std.proofs.Common.{◌≡◌, ℕ, zero, suc, ◌+◌, ◌-◌, ◌<◌, ◌≤◌, List, [], ◌∷◌, length, take, get_or, Option, Some, None, inl, inr, refl, sym, ap, ◌∙◌, arith, add-zero, zero-add}
use Rattle.std.specs.Prelude.{slice_get}
use Rattle.std.proofs.lemmas.Bool.{cases_lt, cases_eq, eq-eqb, ne_eqb, lt-ltb, le-ltb}
use Rattle.std.proofs.lemmas.Option.{slice_get_past}
use Rattle.hpack_codes.specs.Bits.{low_bits}
use Rattle.hpack_codes.specs.Lengths.{lengths}
use Rattle.hpack_codes.specs.Code.{places, symbols_of, first_code, symbol_at, code_of}

-- where the j-th place of n stands
pub record IsPlace (n k : ℕ) (xs : List ℕ) (j s : ℕ) : Type 0 where
  pub i : ℕ
  pub is : s ≡ k + i
  pub within : i < length xs
  pub here : get_or xs i 0 ≡ n
  pub before : length (places n k (take i xs)) ≡ j

places-same : (n k x : ℕ) (xs : List ℕ) → x ≡ n → places n k (x ∷ xs) ≡ k ∷ places n (k + 1) xs
places-same n k x xs e = rw (eq-eqb x n e) refl

places-other : (n k x : ℕ) (xs : List ℕ) → (x ≡ n → ⊥) → places n k (x ∷ xs) ≡ places n (k + 1) xs
places-other n k x xs e = rw (ne_eqb x n e) refl

some_is : (a b : ℕ) → Some a ≡ Some b → a ≡ b
some_is a b e = cc

pub nothing_is : (s : ℕ) → (let none : Option ℕ = None in none ≡ Some s) → ⊥
nothing_is s e = absurd cc

-- one more symbol stands before
later_same : (n k x : ℕ) (xs : List ℕ) (j s : ℕ) → x ≡ n → IsPlace n (k + 1) xs j s → IsPlace n k (x ∷ xs) (suc j) s
later_same n k x xs j s same p = record {
  i = suc p.i;
  is = omega (arith, p.is);
  within = omega (arith, p.within);
  here = p.here;
  before = rw (places-same n k x (take p.i xs) same) (ap suc p.before);
}

later_other : (n k x : ℕ) (xs : List ℕ) (j s : ℕ) → (x ≡ n → ⊥) → IsPlace n (k + 1) xs j s → IsPlace n k (x ∷ xs) j s
later_other n k x xs j s other p = record {
  i = suc p.i;
  is = omega (arith, p.is);
  within = omega (arith, p.within);
  here = p.here;
  before = rw (places-other n k x (take p.i xs) other) p.before;
}

pub place_of : (xs : List ℕ) (n k j s : ℕ) → slice_get (places n k xs) j ≡ Some s → IsPlace n k xs j s
place_of [] n k j s e = absurd (nothing_is s (sym (slice_get_past [] j (omega arith)) ∙ e))
place_of (x ∷ xs) n k zero s e =
    elim (cases_eq x n) [
      | inl same ↦
          let first : k ≡ s = some_is k s (sym (ap (λ ys. slice_get ys 0) (places-same n k x xs same)) ∙ e) in
          record { i = 0; is = omega arith; within = omega arith; here = same; before = refl }
      | inr other ↦ later_other n k x xs 0 s other (place_of xs n (k + 1) 0 s (sym (ap (λ ys. slice_get ys 0) (places-other n k x xs other)) ∙ e))
    ]
place_of (x ∷ xs) n k (suc j) s e =
    elim (cases_eq x n) [
      | inl same ↦ later_same n k x xs j s same (place_of xs n (k + 1) j s (sym (ap (λ ys. slice_get ys (suc j)) (places-same n k x xs same)) ∙ e))
      | inr other ↦ later_other n k x xs (suc j) s other (place_of xs n (k + 1) (suc j) s (sym (ap (λ ys. slice_get ys (suc j)) (places-other n k x xs other)) ∙ e))
    ]

pub place_at : (xs : List ℕ) (n k i : ℕ) → i < length xs → get_or xs i 0 ≡ n → slice_get (places n k xs) (length (places n k (take i xs))) ≡ Some (k + i)
place_at [] n k i within here = absurd (omega arith)
place_at (x ∷ xs) n k zero within here = rw (places-same n k x xs here, add-zero) refl
place_at (x ∷ xs) n k (suc i) within here =
    let count : k + 1 + i ≡ k + suc i = omega arith in
    let rest : slice_get (places n (k + 1) xs) (length (places n (k + 1) (take i xs))) ≡ Some (k + suc i) = place_at xs n (k + 1) i (omega arith) here ∙ ap (λ m. Some m) count in
    elim (cases_eq x n) [
      | inl same ↦ rw (places-same n k x xs same, places-same n k x (take i xs) same) rest
      | inr other ↦ rw (places-other n k x xs other, places-other n k x (take i xs) other) rest
    ]

same_code : (xs : List ℕ) (first : ℕ → ℕ) (n v s : ℕ) → first n ≤ v → IsPlace n 0 xs (v - first n) s
    → low_bits n v ≡ low_bits (get_or xs s 0) (first (get_or xs s 0) + length (places (get_or xs s 0) 0 (take s xs)))
same_code xs first n v s le p =
    let place : p.i ≡ s = omega (arith, p.is) in
    let bits : get_or xs s 0 ≡ n = rw (← place) p.here in
    let count : length (places n 0 (take s xs)) ≡ v - first n = rw (← place) p.before in
    let value : first n + (v - first n) ≡ v = omega arith in
    rw (bits, count, value) refl

symbol_place : (n v s : ℕ) → symbol_at n v ≡ Some s → (first_code n ≤ v) × IsPlace n 0 lengths (v - first_code n) s
unfolding symbol_at symbols_of
symbol_place n v s e =
    elim (cases_lt v (first_code n)) [
      | inl lt ↦ absurd (nothing_is s (sym (rw (lt-ltb v (first_code n) lt) refl) ∙ e))
      | inr le ↦ let found : slice_get (places n 0 lengths) (v - first_code n) ≡ Some s = sym (rw (le-ltb v (first_code n) le) refl) ∙ e in (le, place_of lengths n 0 (v - first_code n) s found)
    ]

-- the symbol of a code has that code
pub code_of-symbol : (n v s : ℕ) → symbol_at n v ≡ Some s → low_bits n v ≡ code_of s
unfolding code_of
code_of-symbol n v s e = let p = symbol_place n v s e in same_code lengths first_code n v s p.0 p.1

pub symbol_below : (n v s : ℕ) → symbol_at n v ≡ Some s → s < 257
symbol_below n v s e = let p = symbol_place n v s e in omega (arith, p.1.is, p.1.within)

-- the length and the value of a symbol's code
abbrev pub code_length : ℕ → ℕ
code_length s = get_or lengths s 0

unfoldable pub code_value : ℕ → ℕ
code_value s = first_code (get_or lengths s 0) + length (places (get_or lengths s 0) 0 (take s lengths))

pub code_of-is : (s : ℕ) → code_of s ≡ low_bits (code_length s) (code_value s)
unfolding code_of code_value
code_of-is s = refl

pub code_value-from : (s : ℕ) → first_code (code_length s) ≤ code_value s
unfolding code_value
code_value-from s = omega arith

symbol_at-first : (n j : ℕ) → symbol_at n (first_code n + j) ≡ slice_get (symbols_of n) j
unfolding symbol_at
symbol_at-first n j = let index : first_code n + j - first_code n ≡ j = omega arith in rw (le-ltb (first_code n + j) (first_code n) (omega arith), index) refl

symbols_of-is : (n : ℕ) → symbols_of n ≡ places n 0 lengths
unfolding symbols_of
symbols_of-is n = refl

code_value-is : (s : ℕ) → code_value s ≡ first_code (code_length s) + length (places (code_length s) 0 (take s lengths))
unfolding code_value
code_value-is s = refl

symbol_in_place : (n s : ℕ) → s < 257 → code_length s ≡ n → symbol_at n (first_code n + length (places n 0 (take s lengths))) ≡ Some s
symbol_in_place n s h here =
    symbol_at-first n (length (places n 0 (take s lengths)))
    ∙ ap (λ (xs : List ℕ). slice_get xs (length (places n 0 (take s lengths)))) (symbols_of-is n)
    ∙ place_at lengths n 0 s h here
    ∙ ap (λ m. Some m) (zero-add s)

-- the symbol of its code
pub symbol_at-code : (s : ℕ) → s < 257 → symbol_at (code_length s) (code_value s) ≡ Some s
symbol_at-code s h = ap (symbol_at (code_length s)) (code_value-is s) ∙ symbol_in_place (code_length s) s h refl
