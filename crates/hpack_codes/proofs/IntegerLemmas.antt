-- Groups of seven bits.
use Rattle.std.proofs.Common.{◌≡◌, ℕ, zero, suc, ◌+◌, ◌-◌, ◌*◌, ◌/◌, ◌%◌, ◌^◌, ◌<◌, ◌≤◌, List, [], ◌∷◌, length, ◌++◌, take, drop, set, inl, inr, refl, sym, ap, subst, ◌∙◌, append_assoc, false, ltb, arith, Ok, Err, drop-cons, add-one, zero-add}
use Rattle.std.proofs.Math.Nat.{pow-suc, mul_comm, mul-le-mul_right, mod-add-mod, mod-eq_of_lt, div-lt_iff_lt-mul, one-le-pow, pow-le-pow_right}
use Rattle.std.proofs.lemmas.Bool.{cases_lt, lt-ltb, le-ltb}
use Rattle.std.proofs.lemmas.List.{take_more_set}
use Rattle.std.proofs.lemmas.Nat.{pow-add, div-add-mod', pow_pos}
use Rattle.hpack_codes.specs.Integers.{groups_of, groups, int_of, int_spelling}
use Rattle.hpack_codes.specs.declared.faults.IntFault.TheVariants.{Overflow}

pub pow_more : (most : ℕ) → 0 < most → 128 ^ most ≡ 128 * 128 ^ (most - 1)
pow_more zero h = absurd (omega arith)
pow_more (suc most) h = let e : suc most - 1 ≡ most = omega arith in rw (e, pow-suc 128 most) (mul_comm (128 ^ most) 128)

pub pow_few : (most : ℕ) → most ≤ 4 → 128 ^ most ≤ 128 ^ 4
pow_few most h = pow-le-pow_right (omega arith) h

pub pow_some : (most : ℕ) → 1 ≤ 128 ^ most
pow_some most = one-le-pow most 128 (omega arith)

pub too_many : (at most : ℕ) (bytes : List ℕ) → at < length bytes → most ≡ 0 → groups_of most (drop at bytes) ≡ Err Overflow
unfolding groups_of
too_many at most bytes h e = rw (e, drop-cons bytes at 0) refl

-- what is written of a number, and what is left of it
pub record IsPart (octets : List ℕ) (len rest : ℕ) (whole : List ℕ) : Type 0 where
  pub some : 1 ≤ len
  pub most : len ≤ 5
  pub left : rest < 128 ^ (6 - len)
  pub joined : take len octets ++ groups (5 - len) rest ≡ whole

not_full : (octets : List ℕ) (len rest : ℕ) (whole : List ℕ) → IsPart octets len rest whole → 128 ≤ rest → len ≤ 4
not_full octets len rest whole p more =
    elim (cases_lt len 5) [
      | inl lt ↦ omega arith
      | inr le ↦ let five : len ≡ 5 = omega (arith, p.most) in let left : rest < 128 ^ (6 - 5) = subst (λ n. rest < 128 ^ (6 - n)) five p.left in absurd (omega arith)
    ]

groups_more : (more rest : ℕ) → 128 ≤ rest → groups (suc more) rest ≡ (128 + rest % 128) ∷ groups more (rest / 128)
unfolding groups
groups_more more rest h = rw (le-ltb rest 128 h) refl

groups_last : (more rest : ℕ) → rest < 128 → groups more rest ≡ rest ∷ []
unfolding groups
groups_last zero rest h = refl
groups_last (suc more) rest h = rw (lt-ltb rest 128 h) refl

pub part_more : (octets : List ℕ) (len rest : ℕ) (whole : List ℕ) → length octets ≡ 6 → IsPart octets len rest whole → 128 ≤ rest → IsPart (set octets len (rest % 128 + 128)) (len + 1) (rest / 128) whole
part_more octets len rest whole six p more =
    let few : len ≤ 4 = not_full octets len rest whole p more in
    let within : len < length octets = omega arith in
    let exponent : 6 - len ≡ suc (5 - len) = omega arith in
    let left : rest < 128 ^ (5 - len) * 128 = rw (exponent, pow-suc 128 (5 - len)) at p.left in
    let one_less : 6 - (len + 1) ≡ 5 - len = omega arith in
    let here : 5 - len ≡ suc (4 - len) = omega arith in
    let next : 5 - (len + 1) ≡ 4 - len = omega arith in
    let order : rest % 128 + 128 ≡ 128 + rest % 128 = omega arith in
    record {
      some = omega arith;
      most = omega arith;
      left = rw one_less ((div-lt_iff_lt-mul {k = 128} {x = rest} {y = 128 ^ (5 - len)} (omega arith)).1 left);
      joined = rw (take_more_set octets len (rest % 128 + 128) within, next, append_assoc (take len octets) ((rest % 128 + 128) ∷ []) (groups (4 - len) (rest / 128)), order, ← groups_more (4 - len) rest more, ← here) p.joined;
    }

pub part_all : (octets : List ℕ) (len rest : ℕ) (whole : List ℕ) → length octets ≡ 6 → IsPart octets len rest whole → rest < 128 → take (len + 1) (set octets len rest) ≡ whole
part_all octets len rest whole six p less =
    let within : len < length octets = omega (arith, p.most) in
    rw (take_more_set octets len rest within, ← groups_last (5 - len) rest less) p.joined

-- a first octet with its low bits clear has room for them
pub prefix_room : (first prefix : ℕ) → first < 256 → prefix ≤ 8 → first % 2 ^ prefix ≡ 0 → first + 2 ^ prefix ≤ 256
prefix_room first prefix fits most clear =
    let whole : 2 ^ (8 - prefix) * 2 ^ prefix ≡ 256 = sym (pow-add 2 (8 - prefix) prefix) ∙ ap (λ n. 2 ^ n) (let e : 8 - prefix + prefix ≡ 8 = omega arith in e) in
    let first-is : first / 2 ^ prefix * 2 ^ prefix ≡ first = omega (arith, div-add-mod' first (2 ^ prefix)) in
    elim (cases_lt (first / 2 ^ prefix) (2 ^ (8 - prefix))) [
      | inl lt ↦ let rows : (first / 2 ^ prefix + 1) * 2 ^ prefix ≤ 2 ^ (8 - prefix) * 2 ^ prefix = mul-le-mul_right (2 ^ prefix) (let l : first / 2 ^ prefix + 1 ≤ 2 ^ (8 - prefix) = omega arith in l) in omega (arith, rows)
      | inr le ↦ let rows : 2 ^ (8 - prefix) * 2 ^ prefix ≤ first / 2 ^ prefix * 2 ^ prefix = mul-le-mul_right (2 ^ prefix) le in absurd (omega (arith, rows))
    ]

-- ---- what is spelled reads back

groups_back : (more v : ℕ) (rest : List ℕ) → v < 128 ^ suc more → groups_of (suc more) (groups more v ++ rest) ≡ Ok (v, length (groups more v))
unfolding groups groups_of
groups_back zero v rest fits = rw (lt-ltb v 128 fits) refl
groups_back (suc more) v rest fits =
    elim (cases_lt v 128) [
      | inl lt ↦ rw (lt-ltb v 128 lt, lt-ltb v 128 lt) refl
      | inr le ↦
          let high : ltb (128 + v % 128) 128 ≡ false = le-ltb (128 + v % 128) 128 (omega arith) in
          let left : v / 128 < 128 ^ suc more = (div-lt_iff_lt-mul {k = 128} {x = v} {y = 128 ^ suc more} (omega arith)).1 (rw pow-suc at fits) in
          let value : (128 + v % 128) % 128 + 128 * (v / 128) ≡ v = omega arith in
          rw (le-ltb v 128 le, high, groups_back more (v / 128) rest left, value, add-one) refl
    ]

low_part : (first m v : ℕ) → first % m ≡ 0 → v < m → (first + v) % m ≡ v
low_part first m v clear fits = sym (mod-add-mod first m v) ∙ rw clear (rw zero-add (mod-eq_of_lt fits))

pub int_back : (first prefix v : ℕ) (rest : List ℕ) → first % 2 ^ prefix ≡ 0 → v < 2 ^ 32 → int_of prefix (int_spelling first prefix v ++ rest) ≡ Ok (v, length (int_spelling first prefix v))
unfolding int_spelling
int_back first prefix v rest clear fits =
    let some = pow_pos prefix in
    elim (cases_lt v (2 ^ prefix - 1)) [
      | inl lt ↦
          let low : (first + v) % 2 ^ prefix ≡ v = low_part first (2 ^ prefix) v clear (omega arith) in
          rw (lt-ltb v (2 ^ prefix - 1) lt, low, lt-ltb v (2 ^ prefix - 1) lt) refl
      | inr le ↦
          let low : (first + (2 ^ prefix - 1)) % 2 ^ prefix ≡ 2 ^ prefix - 1 = low_part first (2 ^ prefix) (2 ^ prefix - 1) clear (omega arith) in
          let full : ltb (2 ^ prefix - 1) (2 ^ prefix - 1) ≡ false = le-ltb (2 ^ prefix - 1) (2 ^ prefix - 1) (omega arith) in
          let back = groups_back 4 (v - (2 ^ prefix - 1)) rest (omega arith) in
          let sum : 2 ^ prefix - 1 + (v - (2 ^ prefix - 1)) ≡ v = omega arith in
          rw (le-ltb v (2 ^ prefix - 1) le, low, full, back, sum, lt-ltb v (2 ^ 32) fits, add-one) refl
    ]
