-- Varints, read and written.
use Rattle.std.proofs.Common.{◌≡◌, ℕ, zero, suc, ◌+◌, ◌-◌, ◌*◌, ◌/◌, ◌%◌, ◌^◌, ◌<◌, ◌≤◌, List, [], ◌∷◌, ◌++◌, length, get_or, take, drop, Option, Some, None, append_assoc, refl, ap, subst, ◌∙◌, inl, inr, arith, bit_and, bit_or}
use Rattle.std.proofs.lemmas.Nat.{and_mask, or_shifted, div_below}
use Rattle.std.proofs.Math.Nat.{pow-suc}
use Rattle.std.proofs.lemmas.Bool.{cases_lt, le-ltb, lt-ltb}
use Rattle.std.proofs.Math.Seq.{take-length}
use Rattle.proto_fields.specs.Chain.{◌>>=◌}
use Rattle.proto_fields.proofs.ChainLemmas.{some, some_is, bind_some, Behind, Behind-first, Behind-more, Behind-drop}
use Rattle.proto_fields.specs.Varint.{number_at, low_number_at, varint_at, number_of, varint_of}

-- the bytes behind the first, as the code names them
pub behind_first : (b : ℕ) (bytes : List ℕ) → take (length (b ∷ bytes) - 1) (drop 1 (b ∷ bytes)) ≡ bytes
behind_first b bytes = let e : suc (length bytes) - 1 ≡ length bytes = omega arith in rw e (take-length bytes)

-- seven more bits below the low 64
pub seven_more : (b high : ℕ) → bit_or ((high % 2 ^ 64) * 128 % 2 ^ 64) (bit_and b 127) ≡ (b % 128 + 128 * high) % 2 ^ 64
seven_more b high =
    let low : b % 128 < 128 = omega arith in
    let shifted : (high % 2 ^ 64) * 128 % 2 ^ 64 ≡ (high % 2 ^ 57) * 2 ^ 7 = omega arith in
    let masked : bit_and b 127 ≡ b % 128 = and_mask b 7 in
    let joined : bit_or ((high % 2 ^ 57) * 2 ^ 7) (b % 128) ≡ (high % 2 ^ 57) * 2 ^ 7 + b % 128 = or_shifted (high % 2 ^ 57) 7 (b % 128) low in
    let sum : (high % 2 ^ 57) * 2 ^ 7 + b % 128 ≡ (b % 128 + 128 * high) % 2 ^ 64 = omega arith in
    rw (shifted, masked) (joined ∙ sum)

-- what a byte with more behind it makes of the number behind it
abbrev with_low : ℕ → Option (ℕ × List ℕ) → Option (ℕ × List ℕ)
with_low b read = read >>= λ high. Some (b % 128 + 128 * high.0, high.1)

abbrev low_bits : Option (ℕ × List ℕ) → Option (ℕ × List ℕ)
low_bits read = read >>= λ n. Some (n.0 % 2 ^ 64, n.1)

with_low-none : (b : ℕ) (read : Option (ℕ × List ℕ)) → low_bits read ≡ None → low_bits (with_low b read) ≡ None
with_low-none b None e = refl
with_low-none b (Some x) e = absurd cc

with_low-some : (b : ℕ) (read : Option (ℕ × List ℕ)) (high : ℕ) (rest : List ℕ) → low_bits read ≡ Some (high, rest) → low_bits (with_low b read) ≡ Some (bit_or (high * 128 % 2 ^ 64) (bit_and b 127), rest)
with_low-some b None high rest e = absurd cc
with_low-some b (Some x) high rest e =
    let found : ℕ × List ℕ = (x.0 % 2 ^ 64, x.1) in
    let both : found ≡ (high, rest) = cc in
    let number : x.0 % 2 ^ 64 ≡ high = ap (λ (p : ℕ × List ℕ). p.0) both in
    let behind : x.1 ≡ rest = ap (λ (p : ℕ × List ℕ). p.1) both in
    rw (← number, seven_more b x.0, behind) refl

pub low_number_at-end : (most : ℕ) (bytes : List ℕ) → length bytes < 1 → low_number_at most bytes ≡ None
unfolding number_at
low_number_at-end zero bytes h = refl
low_number_at-end (suc most) [] h = refl
low_number_at-end (suc most) (b ∷ bytes) h = absurd (omega arith)

pub low_number_at-full : (most : ℕ) (bytes : List ℕ) → most ≡ 0 → low_number_at most bytes ≡ None
unfolding number_at
low_number_at-full most bytes h = rw h refl

pub low_number_at-last : (most : ℕ) (bytes : List ℕ) → 1 ≤ length bytes → 0 < most → get_or bytes 0 0 < 128 → low_number_at most bytes ≡ Some (get_or bytes 0 0, take (length bytes - 1) (drop 1 bytes))
unfolding number_at
low_number_at-last zero bytes some room low = absurd (omega arith)
low_number_at-last (suc most) [] some room low = absurd (omega arith)
low_number_at-last (suc most) (b ∷ bytes) some room low =
    let small : b % 2 ^ 64 ≡ b = omega arith in
    rw (lt-ltb b 128 low, behind_first b bytes, small) refl

pub low_number_at-none : (most : ℕ) (bytes : List ℕ) → 128 ≤ get_or bytes 0 0 → low_number_at (most - 1) (take (length bytes - 1) (drop 1 bytes)) ≡ None → low_number_at most bytes ≡ None
unfolding number_at
low_number_at-none zero bytes high none = refl
low_number_at-none (suc most) [] high none = refl
low_number_at-none (suc most) (b ∷ bytes) high none =
    let same : suc most - 1 ≡ most = omega arith in
    let read : low_number_at most bytes ≡ None = rw (same, behind_first b bytes) at none in
    rw (le-ltb b 128 high) (with_low-none b (number_at most bytes) read)

pub low_number_at-more : (most : ℕ) (bytes : List ℕ) (high : ℕ) (rest : List ℕ) → 1 ≤ length bytes → 0 < most → 128 ≤ get_or bytes 0 0 → low_number_at (most - 1) (take (length bytes - 1) (drop 1 bytes)) ≡ Some (high, rest) → low_number_at most bytes ≡ Some (bit_or (high * 128 % 2 ^ 64) (bit_and (get_or bytes 0 0) 127), rest)
unfolding number_at
low_number_at-more zero bytes high rest some room big read = absurd (omega arith)
low_number_at-more (suc most) [] high rest some room big read = absurd (omega arith)
low_number_at-more (suc most) (b ∷ bytes) high rest some room big read =
    let same : suc most - 1 ≡ most = omega arith in
    let read_behind : low_number_at most bytes ≡ Some (high, rest) = rw (same, behind_first b bytes) at read in
    rw (le-ltb b 128 big) (with_low-some b (number_at most bytes) high rest read_behind)

-- What is read is an end of the bytes.
number_at-behind : (most : ℕ) (bytes : List ℕ) (x : ℕ × List ℕ) → number_at most bytes ≡ Some x → Behind bytes x.1
unfolding number_at
number_at-behind zero bytes x e = absurd cc
number_at-behind (suc most) [] x e = absurd cc
number_at-behind (suc most) (b ∷ bytes) x e =
    elim (cases_lt b 128) [
      | inl lt ↦
          let read : some (b, bytes) ≡ Some x = rw (lt-ltb b 128 lt) at e in
          subst (λ (y : ℕ × List ℕ). Behind (b ∷ bytes) y.1) (some_is (b, bytes) x read) (Behind-first b bytes)
      | inr ge ↦
          let read : with_low b (number_at most bytes) ≡ Some x = rw (le-ltb b 128 ge) at e in
          let high = bind_some (number_at most bytes) (λ high. Some (b % 128 + 128 * high.0, high.1)) x read in
          let found : ℕ × List ℕ = (b % 128 + 128 * high.0.0, high.0.1) in
          subst (λ (y : ℕ × List ℕ). Behind (b ∷ bytes) y.1) (some_is found x high.2) (Behind-more b bytes high.0.1 (number_at-behind most bytes high.0 high.1))
    ]

pub varint_at-behind : (bytes : List ℕ) (x : ℕ × List ℕ) → varint_at bytes ≡ Some x → Behind bytes x.1
unfolding varint_at
varint_at-behind bytes x e =
    let n = bind_some (number_at 10 bytes) (λ n. Some (n.0 % 2 ^ 64, n.1)) x e in
    let found : ℕ × List ℕ = (n.0.0 % 2 ^ 64, n.0.1) in
    subst (λ (y : ℕ × List ℕ). Behind bytes y.1) (some_is found x n.2) (number_at-behind 10 bytes n.0 n.1)

-- what is written of a number
pub number_of-full : (most n : ℕ) → most ≡ 0 → number_of most n ≡ []
unfolding number_of
number_of-full most n h = rw h refl

pub number_of-last : (most n : ℕ) → 0 < most → n < 128 → number_of most n ≡ n ∷ []
unfolding number_of
number_of-last zero n room low = absurd (omega arith)
number_of-last (suc most) n room low = rw (lt-ltb n 128 low) refl

pub number_of-more : (most n : ℕ) → 0 < most → 128 ≤ n → number_of most n ≡ (128 + n % 128) ∷ number_of (most - 1) (n / 128)
unfolding number_of
number_of-more zero n room high = absurd (omega arith)
number_of-more (suc most) n room high = let same : suc most - 1 ≡ most = omega arith in rw (le-ltb n 128 high, same) refl

-- what is pushed, and then the rest
pub number_of-pushed : (front : List ℕ) (most n : ℕ) → 0 < most → 128 ≤ n → (front ++ (n % 128 + 128) ∷ []) ++ number_of (most - 1) (n / 128) ≡ front ++ number_of most n
number_of-pushed front most n room high =
    let byte : n % 128 + 128 ≡ 128 + n % 128 = omega arith in
    rw (byte, number_of-more most n room high) (append_assoc front ((128 + n % 128) ∷ []) (number_of (most - 1) (n / 128)))

-- how long it is
pub length-number_of : (most n : ℕ) → length (number_of most n) ≤ most
unfolding number_of
length-number_of zero n = omega arith
length-number_of (suc most) n =
    elim (cases_lt n 128) [
      | inl lt ↦ rw (lt-ltb n 128 lt) (omega arith)
      | inr ge ↦ rw (le-ltb n 128 ge) (omega (arith, length-number_of most (n / 128)))
    ]

-- how long a small number is
length-small : (k most n : ℕ) → n < 128 ^ suc k → length (number_of most n) ≤ suc k
unfolding number_of
length-small k zero n h = omega arith
length-small zero (suc most) n h = let low : n < 128 = h in rw (lt-ltb n 128 low) (omega arith)
length-small (suc k) (suc most) n h =
    elim (cases_lt n 128) [
      | inl lt ↦ rw (lt-ltb n 128 lt) (omega arith)
      | inr ge ↦
          let below : n < 128 ^ suc k * 128 = rw pow-suc at h in
          rw (le-ltb n 128 ge) (omega (arith, length-small k most (n / 128) (div_below n 128 (128 ^ suc k) (omega arith) below)))
    ]

pub length-varint_of : (n : ℕ) → length (varint_of n) ≤ 10
unfolding varint_of
length-varint_of n = length-number_of 10 n

-- A tag takes five bytes at most.
pub length-varint_of-small : (n : ℕ) → n < 2 ^ 32 → length (varint_of n) ≤ 5
unfolding varint_of
length-varint_of-small n h = length-small 4 10 n (omega arith)

pub put_varint_is : (n : ℕ) → number_of 10 n ≡ varint_of n
unfolding varint_of
put_varint_is n = refl

-- A number that was read from a few bytes is small.
number_at-small : (most : ℕ) (bytes : List ℕ) (x : ℕ × List ℕ) → number_at most bytes ≡ Some x → x.0 < 128 ^ (length bytes - length x.1)
unfolding number_at
number_at-small zero bytes x e = absurd cc
number_at-small (suc most) [] x e = absurd cc
number_at-small (suc most) (b ∷ bytes) x e =
    elim (cases_lt b 128) [
      | inl lt ↦
          let read : some (b, bytes) ≡ Some x = rw (lt-ltb b 128 lt) at e in
          let one : suc (length bytes) - length bytes ≡ 1 = omega arith in
          let low : b < 128 ^ (suc (length bytes) - length bytes) = rw one lt in
          subst (λ (y : ℕ × List ℕ). y.0 < 128 ^ (suc (length bytes) - length y.1)) (some_is (b, bytes) x read) low
      | inr ge ↦
          let read : with_low b (number_at most bytes) ≡ Some x = rw (le-ltb b 128 ge) at e in
          let high = bind_some (number_at most bytes) (λ high. Some (b % 128 + 128 * high.0, high.1)) x read in
          let found : ℕ × List ℕ = (b % 128 + 128 * high.0.0, high.0.1) in
          let shorter = (Behind-drop bytes high.0.1 (number_at-behind most bytes high.0 high.1)).1 in
          let more : suc (length bytes) - length high.0.1 ≡ suc (length bytes - length high.0.1) = omega (arith, shorter) in
          let below = number_at-small most bytes high.0 high.1 in
          let whole : b % 128 + 128 * high.0.0 < 128 ^ (suc (length bytes) - length high.0.1) = rw (more, pow-suc) (omega (arith, below)) in
          subst (λ (y : ℕ × List ℕ). y.0 < 128 ^ (suc (length bytes) - length y.1)) (some_is found x high.2) whole
    ]

-- what is below a power of 128 has a spelling of so many bytes
length-varint_of-below : (k n : ℕ) → 0 < k → n < 128 ^ k → length (varint_of n) ≤ k
unfolding varint_of
length-varint_of-below zero n some h = absurd (omega arith)
length-varint_of-below (suc k) n some h = length-small k 10 n h

-- No spelling of a number is shorter than the one that is written.
pub length-varint_of-shortest : (bytes rest : List ℕ) (n : ℕ) → varint_at bytes ≡ Some (n, rest) → length (varint_of n) + length rest ≤ length bytes
unfolding varint_at
length-varint_of-shortest bytes rest n e =
    let x = bind_some (number_at 10 bytes) (λ n. Some (n.0 % 2 ^ 64, n.1)) (n, rest) e in
    let shorter = (Behind-drop bytes x.0.1 (number_at-behind 10 bytes x.0 x.1)).1 in
    let below = number_at-small 10 bytes x.0 x.1 in
    let least : x.0.0 % 2 ^ 64 < 128 ^ (length bytes - length x.0.1) = omega (arith, below) in
    let short = length-varint_of-below (length bytes - length x.0.1) (x.0.0 % 2 ^ 64) (omega (arith, shorter)) least in
    let found : ℕ × List ℕ = (x.0.0 % 2 ^ 64, x.0.1) in
    subst (λ (y : ℕ × List ℕ). length (varint_of y.0) + length y.1 ≤ length bytes) (some_is found (n, rest) x.2) (omega (arith, short, shorter))
