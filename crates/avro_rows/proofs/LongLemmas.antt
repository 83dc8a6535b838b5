-- The coding of numbers: its two forms, and that no number's form begins another's.
use Rattle.std.proofs.Common.{◌≡◌, ℕ, zero, suc, ◌+◌, ◌-◌, ◌*◌, ◌/◌, ◌%◌, ◌<◌, ◌≤◌, ◌⊎◌, ℤ, pos, negsuc, List, [], ◌∷◌, length, get_or, ◌++◌, refl, sym, ◌∙◌, ap, inl, inr, append_assoc, arith}
use Rattle.std.proofs.lemmas.Bool.{lt-ltb, le-ltb, cases_lt}
use Rattle.avro_rows.specs.Long.{zig_zag_of, groups_of, varint_of, long_of}

-- one group
groups-small : (steps n : ℕ) → n < 128 → groups_of (suc steps) n ≡ n ∷ []
unfolding groups_of
groups-small steps n h = rw (lt-ltb n 128 h) refl

-- the lowest group, and those behind it
groups-large : (steps n : ℕ) → 128 ≤ n → groups_of (suc steps) n ≡ (128 + n % 128) ∷ groups_of steps (n / 128)
unfolding groups_of
groups-large steps n h = rw (le-ltb n 128 h) refl

more_steps : (steps more n : ℕ) → n < suc steps → n < suc more → (n / 128 < steps → n / 128 < more → groups_of steps (n / 128) ≡ groups_of more (n / 128)) →
    (n < 128) ⊎ (128 ≤ n) → groups_of (suc steps) n ≡ groups_of (suc more) n
more_steps steps more n h k behind (inl small) = groups-small steps n small ∙ sym (groups-small more n small)
more_steps steps more n h k behind (inr large) =
    groups-large steps n large ∙ ap (λ rest. (128 + n % 128) ∷ rest) (behind (omega arith) (omega arith)) ∙ sym (groups-large more n large)

-- more steps change nothing
groups-steps : (steps more n : ℕ) → n < steps → n < more → groups_of steps n ≡ groups_of more n
groups-steps zero more n h k = absurd (omega arith)
groups-steps (suc steps) zero n h k = absurd (omega arith)
groups-steps (suc steps) (suc more) n h k = more_steps steps more n h k (groups-steps steps more (n / 128)) (cases_lt n 128)

pub varint-small : (n : ℕ) → n < 128 → varint_of n ≡ n ∷ []
unfolding varint_of
varint-small n h = groups-small n n h

pub varint-large : (n : ℕ) → 128 ≤ n → varint_of n ≡ (128 + n % 128) ∷ varint_of (n / 128)
unfolding varint_of
varint-large n h =
    groups-large n n h ∙ ap (λ rest. (128 + n % 128) ∷ rest) (groups-steps n (suc (n / 128)) (n / 128) (omega arith) (omega arith))

heads : (a b : ℕ) (x y : List ℕ) → a ∷ x ≡ b ∷ y → a ≡ b
heads a b x y e = cc

tails : (a b : ℕ) (x y : List ℕ) → a ∷ x ≡ b ∷ y → x ≡ y
tails a b x y e = cc

unique_step : (f g a b : ℕ) (x y : List ℕ) → a < suc f → b < suc g →
    (a / 128 < f → b / 128 < g → groups_of f (a / 128) ++ x ≡ groups_of g (b / 128) ++ y → (a / 128 ≡ b / 128) × (x ≡ y)) →
    (a < 128) ⊎ (128 ≤ a) → (b < 128) ⊎ (128 ≤ b) → groups_of (suc f) a ++ x ≡ groups_of (suc g) b ++ y → (a ≡ b) × (x ≡ y)
unique_step f g a b x y h k behind (inl a_small) (inl b_small) e =
    let same : a ∷ x ≡ b ∷ y = rw (groups-small f a a_small, groups-small g b b_small) at e in
    (heads a b x y same, tails a b x y same)
unique_step f g a b x y h k behind (inl a_small) (inr b_large) e =
    let same : a ∷ x ≡ (128 + b % 128) ∷ (groups_of g (b / 128) ++ y) = rw (groups-small f a a_small, groups-large g b b_large) at e in
    let head : a ≡ 128 + b % 128 = heads _ _ _ _ same in
    absurd (omega arith)
unique_step f g a b x y h k behind (inr a_large) (inl b_small) e =
    let same : (128 + a % 128) ∷ (groups_of f (a / 128) ++ x) ≡ b ∷ y = rw (groups-large f a a_large, groups-small g b b_small) at e in
    let head : 128 + a % 128 ≡ b = heads _ _ _ _ same in
    absurd (omega arith)
unique_step f g a b x y h k behind (inr a_large) (inr b_large) e =
    let same : (128 + a % 128) ∷ (groups_of f (a / 128) ++ x) ≡ (128 + b % 128) ∷ (groups_of g (b / 128) ++ y) = rw (groups-large f a a_large, groups-large g b b_large) at e in
    let head : 128 + a % 128 ≡ 128 + b % 128 = heads _ _ _ _ same in
    let rest = behind (omega arith) (omega arith) (tails _ _ _ _ same) in
    (let high : a / 128 ≡ b / 128 = rest.0 in omega arith, rest.1)

groups-unique : (f g a b : ℕ) (x y : List ℕ) → a < f → b < g → groups_of f a ++ x ≡ groups_of g b ++ y → (a ≡ b) × (x ≡ y)
groups-unique zero g a b x y h k e = absurd (omega arith)
groups-unique (suc f) zero a b x y h k e = absurd (omega arith)
groups-unique (suc f) (suc g) a b x y h k e = unique_step f g a b x y h k (groups-unique f g (a / 128) (b / 128) x y) (cases_lt a 128) (cases_lt b 128) e

-- no number's form begins another's
pub varint-unique : (a b : ℕ) (x y : List ℕ) → varint_of a ++ x ≡ varint_of b ++ y → (a ≡ b) × (x ≡ y)
unfolding varint_of
varint-unique a b x y e = groups-unique (suc a) (suc b) a b x y (omega arith) (omega arith) e

zig_zag-unique : (a b : ℤ) → zig_zag_of a ≡ zig_zag_of b → a ≡ b
zig_zag-unique (pos a) (pos b) e = ap pos (omega arith)
zig_zag-unique (pos a) (negsuc b) e = absurd (omega arith)
zig_zag-unique (negsuc a) (pos b) e = absurd (omega arith)
zig_zag-unique (negsuc a) (negsuc b) e = ap negsuc (omega arith)

pub long-unique : (a b : ℤ) (x y : List ℕ) → long_of a ++ x ≡ long_of b ++ y → (a ≡ b) × (x ≡ y)
long-unique a b x y e =
    let same = varint-unique (zig_zag_of a) (zig_zag_of b) x y e in
    (zig_zag-unique a b same.0, same.1)

-- Writing: one group more, and the last.

pub push-group : (out new whole : List ℕ) (n : ℕ) → 128 ≤ n → new ≡ out ++ (128 + n % 128) ∷ [] → out ++ varint_of n ≡ whole → new ++ varint_of (n / 128) ≡ whole
push-group out new whole n h put is =
    ap (λ s. s ++ varint_of (n / 128)) put ∙ append_assoc out ((128 + n % 128) ∷ []) (varint_of (n / 128)) ∙ ap (λ s. out ++ s) (sym (varint-large n h)) ∙ is

pub push-last : (out new whole : List ℕ) (n : ℕ) → n < 128 → new ≡ out ++ n ∷ [] → out ++ varint_of n ≡ whole → new ≡ whole
push-last out new whole n h put is = put ∙ ap (λ s. out ++ s) (sym (varint-small n h)) ∙ is

-- Reading: what the first byte says of the number that stands there.

empty_at : (n : ℕ) (rest : List ℕ) → [] ≡ varint_of n ++ rest → (n < 128) ⊎ (128 ≤ n) → ⊥
empty_at n rest e (inl small) = let same : [] ≡ n ∷ rest = rw (varint-small n small) at e in cc
empty_at n rest e (inr large) = let same : [] ≡ (128 + n % 128) ∷ (varint_of (n / 128) ++ rest) = rw (varint-large n large) at e in cc

-- no number is spelled without a byte
pub varint-some : (n : ℕ) (rest : List ℕ) → [] ≡ varint_of n ++ rest → ⊥
varint-some n rest e = empty_at n rest e (cases_lt n 128)

pub empty-is_none : (bytes : List ℕ) (n : ℕ) (rest : List ℕ) → length bytes ≡ 0 → bytes ≡ varint_of n ++ rest → ⊥
empty-is_none [] n rest none is = varint-some n rest is
empty-is_none (first ∷ bytes) n rest none is = absurd (omega arith)

-- the first of some bytes is a byte
pub first-below : (bytes rest : List ℕ) (first : ℕ) → bytes ≡ first ∷ rest → ((i : ℕ) → get_or bytes i 0 < 256) → first < 256
first-below bytes rest first e each = let at_0 : get_or (first ∷ rest) 0 0 < 256 = rw e at (each 0) in at_0

-- a first byte below 128 is the number
pub read-small : (bytes rest : List ℕ) (first : ℕ) → bytes ≡ first ∷ rest → first < 128 → bytes ≡ varint_of first ++ rest
read-small bytes rest first e h = e ∙ ap (λ s. s ++ rest) (sym (varint-small first h))

pub small-is : (bytes rest more : List ℕ) (first n : ℕ) → bytes ≡ first ∷ rest → first < 128 → bytes ≡ varint_of n ++ more → n ≡ first
small-is bytes rest more first n e h is = sym (varint-unique first n rest more (sym (read-small bytes rest first e h) ∙ is)).0

large_behind : (first n : ℕ) (rest more : List ℕ) → 128 ≤ first → first ∷ rest ≡ varint_of n ++ more → (n < 128) ⊎ (128 ≤ n) →
    (128 ≤ n) × (first ≡ 128 + n % 128) × (rest ≡ varint_of (n / 128) ++ more)
large_behind first n rest more h e (inl small) =
    let same : first ∷ rest ≡ n ∷ more = rw (varint-small n small) at e in
    let head : first ≡ n = heads _ _ _ _ same in
    absurd (omega arith)
large_behind first n rest more h e (inr large) =
    let same : first ∷ rest ≡ (128 + n % 128) ∷ (varint_of (n / 128) ++ more) = rw (varint-large n large) at e in
    (large, heads _ _ _ _ same, tails _ _ _ _ same)

-- behind a first byte from 128 on stands the rest of the number
pub rest_of_number : (first n : ℕ) (rest more : List ℕ) → 128 ≤ first → first ∷ rest ≡ varint_of n ++ more →
    (128 ≤ n) × (first ≡ 128 + n % 128) × (rest ≡ varint_of (n / 128) ++ more)
rest_of_number first n rest more h e = large_behind first n rest more h e (cases_lt n 128)

-- the rest of the number, where it was read
pub rest-is : (bytes rest more behind : List ℕ) (first n high : ℕ) → bytes ≡ first ∷ rest → 128 ≤ first → bytes ≡ varint_of n ++ more → rest ≡ varint_of high ++ behind →
    (128 ≤ n) × (n ≡ high * 128 + (first - 128))
rest-is bytes rest more behind first n high e h is read =
    let parts = rest_of_number first n rest more h (sym e ∙ is) in
    let large : 128 ≤ n = parts.0 in
    let low : first ≡ 128 + n % 128 = parts.1 in
    let same : high ≡ n / 128 = (varint-unique high (n / 128) behind more (sym read ∙ parts.2)).0 in
    (large, omega arith)

-- a first byte from 128 on and the rest of the number are a number
pub number_of_rest : (first high : ℕ) (rest more : List ℕ) → 128 ≤ first → first < 256 → 0 < high → rest ≡ varint_of high ++ more →
    first ∷ rest ≡ varint_of (high * 128 + (first - 128)) ++ more
number_of_rest first high rest more h k positive e =
    let large : 128 ≤ high * 128 + (first - 128) = omega arith in
    let behind : (high * 128 + (first - 128)) / 128 ≡ high = omega arith in
    let low : first ≡ 128 + (high * 128 + (first - 128)) % 128 = omega arith in
    rw (varint-large (high * 128 + (first - 128)) large, behind, ← low, e) refl
