-- The tables are those of the canonical code: facts of the whole table, by computation.
use Rattle.std.proofs.Common.{◌≡◌, ℕ, suc, ◌+◌, ◌-◌, ◌*◌, ◌^◌, ◌<◌, ◌≤◌, List, length, take, map, get_or, true, false, leb, Some, refl, sym, ap, ◌∙◌, arith, zero-add, add-one, inl, inr}
use Rattle.std.specs.List.{flat_map, range_with_len, list_all}
use Rattle.std.proofs.Math.Nat.{pow-succ'}
use Rattle.std.proofs.lemmas.List.FromFn.{get_or-map-range_with_len, get_or-range_with_len, take-map-range_with_len}
use Rattle.std.proofs.lemmas.List.Concat.{get_or-flat_map}
use Rattle.std.proofs.lemmas.List.Folds.{list_all_at}
use Rattle.std.proofs.lemmas.List.{map-id, get_or_past, get_or-take}
use Rattle.std.proofs.lemmas.Bool.{cases_lt, lt-leb, le-ltb}
use Rattle.std.proofs.lemmas.Option.{slice_get-get_or}
use Rattle.hpack_codes.specs.Lengths.{lengths}
use Rattle.hpack_codes.specs.Code.{symbols_of, first_code, symbol_at}
use Rattle.hpack_codes.specs.declared.tables.TheConstants.{LENGTHS, SYMBOLS, ENDS, FIRST_CODES, SHORTER}

-- behind the codes of n bits
abbrev pub end_code : ℕ → ℕ
end_code n = first_code n + length (symbols_of n)

-- the code is complete: its codes of thirty bits end at 2^30
pub complete : end_code 30 ≡ 2 ^ 30
unfolding first_code symbols_of
complete = refl

-- it has 257 symbols
pub symbols_are : flat_map symbols_of (range_with_len 0 31) ≡ SYMBOLS
unfolding symbols_of
symbols_are = refl

pub lengths_are : take 256 lengths ≡ LENGTHS
lengths_are = refl

ends_are : map (λ n. end_code n * 2 ^ (30 - n)) (range_with_len 0 31) ≡ ENDS
unfolding first_code symbols_of
ends_are = refl

firsts_are : map first_code (range_with_len 0 31) ≡ FIRST_CODES
unfolding first_code symbols_of
firsts_are = refl

shorter_are : map (λ n. length (flat_map symbols_of (range_with_len 0 n))) (range_with_len 0 31) ≡ SHORTER
unfolding symbols_of
shorter_are = refl

pub no_code_of_four : first_code 5 ≡ 0
unfolding first_code symbols_of
no_code_of_four = refl

pub end_at : (n : ℕ) → n < 31 → get_or ENDS n 0 ≡ end_code n * 2 ^ (30 - n)
end_at n h = ap (λ (xs : List ℕ). get_or xs n 0) (sym ends_are) ∙ get_or-map-range_with_len (λ m. end_code m * 2 ^ (30 - m)) 0 31 n n 0 h (omega arith)

pub first_at : (n : ℕ) → n < 31 → get_or FIRST_CODES n 0 ≡ first_code n
first_at n h = ap (λ (xs : List ℕ). get_or xs n 0) (sym firsts_are) ∙ get_or-map-range_with_len first_code 0 31 n n 0 h (omega arith)

pub shorter_at : (n : ℕ) → n < 31 → get_or SHORTER n 0 ≡ length (flat_map symbols_of (range_with_len 0 n))
shorter_at n h = ap (λ (xs : List ℕ). get_or xs n 0) (sym shorter_are) ∙ get_or-map-range_with_len (λ m. length (flat_map symbols_of (range_with_len 0 m))) 0 31 n n 0 h (omega arith)

-- the symbol at a place among those of a length
pub symbol_in : (n j : ℕ) → n < 31 → j < length (symbols_of n) → get_or SYMBOLS (length (flat_map symbols_of (range_with_len 0 n)) + j) 0 ≡ get_or (symbols_of n) j 0
symbol_in n j h within =
    let all = range_with_len 0 31 in
    let here : get_or all n 0 ≡ n = get_or-range_with_len 0 31 n 0 h ∙ zero-add n in
    let front : take n all ≡ range_with_len 0 n = ap (take n) (sym (map-id all)) ∙ take-map-range_with_len (λ m. m) 0 31 n (omega arith) ∙ map-id (range_with_len 0 n) in
    let inside : j < length (symbols_of (get_or all n 0)) = rw here within in
    let found = get_or-flat_map symbols_of all n j 0 0 h inside in
    ap (λ (xs : List ℕ). get_or xs (length (flat_map symbols_of (range_with_len 0 n)) + j) 0) (sym symbols_are)
    ∙ ap (λ (xs : List ℕ). get_or (flat_map symbols_of all) (length (flat_map symbols_of xs) + j) 0) (sym front)
    ∙ found
    ∙ ap (λ m. get_or (symbols_of m) j 0) here

pub below_all : (xs : List ℕ) (most i : ℕ) → list_all (λ x. leb x most) xs ≡ true → get_or xs i 0 ≤ most
below_all xs most i all =
    elim (cases_lt i (length xs)) [
      | inl lt ↦ elim (cases_lt most (get_or xs i 0)) [
        | inl above ↦ let not : list_all (λ x. leb x most) xs ≡ false = list_all_at (λ x. leb x most) xs i 0 lt (lt-leb (get_or xs i 0) most above) in absurd cc
        | inr le ↦ le
      ]
      | inr le ↦ rw (get_or_past xs i 0 le) (omega arith)
    ]

pub symbol_small : (i : ℕ) → get_or SYMBOLS i 0 ≤ 256
symbol_small i = below_all SYMBOLS 256 i refl

pub length_small : (i : ℕ) → get_or LENGTHS i 0 ≤ 30
length_small i = below_all LENGTHS 30 i refl

pub length_at : (i : ℕ) → i < 256 → get_or LENGTHS i 0 ≡ get_or lengths i 0
length_at i h = ap (λ (xs : List ℕ). get_or xs i 0) (sym lengths_are) ∙ get_or-take 256 lengths i 0 h

-- where the symbol of a code stands
pub symbol_found : (n v : ℕ) → n < 31 → first_code n ≤ v → v < end_code n → symbol_at n v ≡ Some (get_or SYMBOLS (get_or SHORTER n 0 + (v - get_or FIRST_CODES n 0)) 0)
unfolding symbol_at
symbol_found n v h from below =
    let inside : v - first_code n < length (symbols_of n) = omega arith in
    rw (le-ltb v (first_code n) from, shorter_at n h, first_at n h, symbol_in n (v - first_code n) h inside) (slice_get-get_or (symbols_of n) (v - first_code n) 0 inside)

places_small : (n : ℕ) → get_or (map (λ m. get_or SHORTER m 0 + length (symbols_of m)) (range_with_len 0 31)) n 0 ≤ 257
unfolding symbols_of
places_small n = below_all (map (λ m. get_or SHORTER m 0 + length (symbols_of m)) (range_with_len 0 31)) 257 n refl

-- it is one of the 257
pub symbol_within : (n v : ℕ) → n < 31 → first_code n ≤ v → v < end_code n → get_or SHORTER n 0 + (v - get_or FIRST_CODES n 0) < 257
symbol_within n v h from below =
    let here : get_or (map (λ m. get_or SHORTER m 0 + length (symbols_of m)) (range_with_len 0 31)) n 0 ≡ get_or SHORTER n 0 + length (symbols_of n) = get_or-map-range_with_len (λ m. get_or SHORTER m 0 + length (symbols_of m)) 0 31 n n 0 h (omega arith) in
    omega (arith, here, places_small n, first_at n h)

-- codes of one more bit begin at twice the end
pub first_code-suc : (n : ℕ) → first_code (suc n) ≡ 2 * end_code n
unfolding first_code
first_code-suc n = refl

-- what isn't below the codes of n bits is above where those of one more begin
pub next_codes : (n window : ℕ) → n < 30 → get_or ENDS n 0 ≤ window → first_code (n + 1) * 2 ^ (30 - (n + 1)) ≤ window
next_codes n window h above =
    let here = end_at n (omega arith) in
    let power : 2 ^ (30 - n) ≡ 2 * 2 ^ (30 - (n + 1)) = ap (λ m. 2 ^ m) (let e : 30 - n ≡ suc (30 - (n + 1)) = omega arith in e) ∙ pow-succ' 2 (30 - (n + 1)) in
    let twice : first_code (n + 1) ≡ 2 * end_code n = rw add-one (first_code-suc n) in
    let value : first_code (n + 1) * 2 ^ (30 - (n + 1)) ≡ end_code n * 2 ^ (30 - n) = rw (twice, power) (omega arith) in
    omega (arith, above, here, value)

above_all : (xs : List ℕ) (least i : ℕ) → i < length xs → list_all (λ x. leb least x) xs ≡ true → least ≤ get_or xs i 0
above_all xs least i lt all =
    elim (cases_lt (get_or xs i 0) least) [
      | inl below ↦ let not : list_all (λ x. leb least x) xs ≡ false = list_all_at (λ x. leb least x) xs i 0 lt (lt-leb least (get_or xs i 0) below) in absurd cc
      | inr le ↦ le
    ]

pub lengths_some : (s : ℕ) → s < 257 → 1 ≤ get_or lengths s 0
lengths_some s h = above_all lengths 1 s h refl

pub lengths_most : (s : ℕ) → get_or lengths s 0 ≤ 30
lengths_most s = below_all lengths 30 s refl

over_all : (n : ℕ) → get_or (map (λ m. end_code m - 2 ^ m) (range_with_len 0 31)) n 0 ≤ 0
unfolding first_code symbols_of
over_all n = below_all (map (λ m. end_code m - 2 ^ m) (range_with_len 0 31)) 0 n refl

-- the codes of n bits have n bits
pub end_code-fits : (n : ℕ) → n < 31 → end_code n ≤ 2 ^ n
end_code-fits n h =
    let here : get_or (map (λ m. end_code m - 2 ^ m) (range_with_len 0 31)) n 0 ≡ end_code n - 2 ^ n = get_or-map-range_with_len (λ m. end_code m - 2 ^ m) 0 31 n n 0 h (omega arith) in
    omega (arith, here, over_all n)

ones_all : (n : ℕ) → get_or (map (λ m. end_code m - (2 ^ m - 1)) (range_with_len 0 8)) n 0 ≤ 0
unfolding first_code symbols_of
ones_all n = below_all (map (λ m. end_code m - (2 ^ m - 1)) (range_with_len 0 8)) 0 n refl

-- at most seven ones are no code
pub end_code-ones : (n : ℕ) → n ≤ 7 → end_code n ≤ 2 ^ n - 1
end_code-ones n h =
    let here : get_or (map (λ m. end_code m - (2 ^ m - 1)) (range_with_len 0 8)) n 0 ≡ end_code n - (2 ^ n - 1) = get_or-map-range_with_len (λ m. end_code m - (2 ^ m - 1)) 0 8 n n 0 (omega arith) (omega arith) in
    omega (arith, here, ones_all n)
