-- Codes of the canonical code among bits.
use Rattle.std.proofs.Common.{◌≡◌, ℕ, zero, suc, ◌+◌, ◌-◌, ◌*◌, ◌/◌, ◌%◌, ◌^◌, ◌<◌, ◌≤◌, cond, eqb, List, [], ◌∷◌, ◌++◌, Some, None, Err, refl, sym, ap, subst, ◌∙◌, append_assoc, arith, zero-add}
use Rattle.std.proofs.Math.Nat.{zero-mul, pow-suc, pow-succ', mul_comm, mul_assoc, mul-add-div_right, mod-lt, div-add-mod'}
use Rattle.std.proofs.lemmas.Nat.{pow_pos, div_below}
use Rattle.std.proofs.lemmas.Bool.{le-ltb}
use Rattle.std.proofs.lemmas.Option.{slice_get_past}
use Rattle.hpack_codes.specs.Bits.{low_bits}
use Rattle.hpack_codes.specs.Code.{symbols_of, first_code, symbol_at, eos}
use Rattle.hpack_codes.specs.Huffman.{Decoded, octets_from, with_octet}
use Rattle.hpack_codes.specs.declared.faults.HuffFault.TheVariants.{Eos}
use Rattle.hpack_codes.proofs.BitLemmas.{low_bits-split, low_bits-mod}
use Rattle.hpack_codes.proofs.TableLemmas.{end_code, first_code-suc}

-- no code of n bits is at the end or above
pub symbol_at-none : (n u : ℕ) → end_code n ≤ u → symbol_at n u ≡ None
unfolding symbol_at
symbol_at-none n u h = rw (le-ltb u (first_code n) (omega arith)) (slice_get_past (symbols_of n) (u - first_code n) (omega arith))

end_code-half : (n u : ℕ) → end_code (suc n) ≤ u → end_code n ≤ u / 2
end_code-half n u h = omega (arith, first_code-suc n)

-- what lies at the end or above does so with fewer bits too
pub end_code-front : (j n u y : ℕ) → y < 2 ^ j → end_code (n + j) ≤ u * 2 ^ j + y → end_code n ≤ u
end_code-front zero n u y fits h = let none : n + 0 ≡ n = omega arith in let here : end_code n ≤ u * 2 ^ 0 + y = subst (λ m. end_code m ≤ u * 2 ^ 0 + y) none h in omega arith
end_code-front (suc j) n u y fits h =
    let power : 2 ^ suc j ≡ 2 * 2 ^ j = pow-succ' 2 j in
    let half : y / 2 < 2 ^ j = omega (arith, power) in
    let bits : n + suc j ≡ suc (n + j) = omega arith in
    let here : end_code (suc (n + j)) ≤ u * 2 ^ suc j + y = subst (λ m. end_code m ≤ u * 2 ^ suc j + y) bits h in
    let down = end_code-half (n + j) (u * 2 ^ suc j + y) here in
    let value : (u * 2 ^ suc j + y) / 2 ≡ u * 2 ^ j + y / 2 = rw (power, mul_comm 2 (2 ^ j), ← mul_assoc u (2 ^ j) 2) (mul-add-div_right (omega arith) (u * 2 ^ j) y) in
    end_code-front j n u (y / 2) half (subst (λ v. end_code (n + j) ≤ v) value down)

pub octets_from-none : (n v b : ℕ) (bits : List ℕ) → symbol_at (n + 1) (2 * v + b) ≡ None → octets_from n v (b ∷ bits) ≡ octets_from (n + 1) (2 * v + b) bits
unfolding octets_from
octets_from-none n v b bits e = rw (e, octets_from) refl

-- what a code does
abbrev pub after_code : ℕ → Decoded → Decoded
after_code s later = cond (eqb s eos) (Err Eos) (with_octet s later)

pub octets_from-some : (n v b s : ℕ) (bits : List ℕ) → symbol_at (n + 1) (2 * v + b) ≡ Some s → octets_from n v (b ∷ bits) ≡ after_code s (octets_from 0 0 bits)
unfolding octets_from
octets_from-some n v b s bits e = rw (e, octets_from) refl

low_bits-suc : (n x : ℕ) → x < 2 ^ suc n → low_bits (suc n) x ≡ (x / 2 ^ n) ∷ low_bits n (x % 2 ^ n)
unfolding low_bits
low_bits-suc n x fits =
    let power : 2 ^ suc n ≡ 2 * 2 ^ n = pow-succ' 2 n in
    let top : x / 2 ^ n < 2 = div_below x (2 ^ n) 2 (pow_pos n) (omega (arith, power)) in
    let bit : x / 2 ^ n % 2 ≡ x / 2 ^ n = omega arith in
    rw (bit, ← low_bits-mod n x) refl

-- bits that hold no code are gathered
no_bits : (k u x : ℕ) (rest : List ℕ) → x ≡ 0 → octets_from k u (low_bits 0 x ++ rest) ≡ octets_from (k + 0) (u * 2 ^ 0 + x) rest
unfolding low_bits
no_bits k u x rest h = let bits : k + 0 ≡ k = omega arith in let value : u * 2 ^ 0 + x ≡ u = omega arith in rw (bits, value) refl

pub gathered : (j k u x : ℕ) (rest : List ℕ) → x < 2 ^ j → end_code (k + j) ≤ u * 2 ^ j + x → octets_from k u (low_bits j x ++ rest) ≡ octets_from (k + j) (u * 2 ^ j + x) rest
gathered zero k u x rest fits h = no_bits k u x rest (omega arith)
gathered (suc j) k u x rest fits h =
    let power : 2 ^ suc j ≡ 2 * 2 ^ j = pow-succ' 2 j in
    let bit = x / 2 ^ j in
    let low = x % 2 ^ j in
    let parts : bit * 2 ^ j + low ≡ x = div-add-mod' x (2 ^ j) in
    let below : low < 2 ^ j = mod-lt x (pow_pos j) in
    let value : (2 * u + bit) * 2 ^ j + low ≡ u * 2 ^ suc j + x = rw power (omega arith) in
    let bits : k + 1 + j ≡ k + suc j = omega arith in
    let free : end_code (k + 1 + j) ≤ (2 * u + bit) * 2 ^ j + low = rw (bits, value) h in
    let none = symbol_at-none (k + 1) (2 * u + bit) (end_code-front j (k + 1) (2 * u + bit) low below free) in
    let head : low_bits (suc j) x ++ rest ≡ bit ∷ (low_bits j low ++ rest) = rw (low_bits-suc j x fits) refl in
    let tail = gathered j (k + 1) (2 * u + bit) low rest below free in
    let last : octets_from (k + 1 + j) ((2 * u + bit) * 2 ^ j + low) rest ≡ octets_from (k + suc j) (u * 2 ^ suc j + x) rest = rw (bits, value) refl in
    ap (octets_from k u) head ∙ octets_from-none k u bit (low_bits j low ++ rest) none ∙ tail ∙ last

one_bit : (b : ℕ) → low_bits 1 (b % 2) ≡ b % 2 ∷ []
unfolding low_bits
one_bit b = let e : b % 2 / 1 % 2 ≡ b % 2 = omega arith in rw e refl

split_last : (n v : ℕ) (rest : List ℕ) → low_bits (suc n) v ++ rest ≡ low_bits n (v / 2) ++ (v % 2 ∷ rest)
split_last n v rest =
    let bits : suc n ≡ n + 1 = omega arith in
    let split : low_bits (suc n) v ≡ low_bits n (v / 2) ++ low_bits 1 (v % 2) = rw bits (low_bits-split n 1 v) in
    rw (split, one_bit v) (append_assoc (low_bits n (v / 2)) (v % 2 ∷ []) rest)

-- a whole code gives its symbol
pub coded : (n v s : ℕ) (rest : List ℕ) → first_code (suc n) ≤ v → v < 2 ^ suc n → symbol_at (suc n) v ≡ Some s → octets_from 0 0 (low_bits (suc n) v ++ rest) ≡ after_code s (octets_from 0 0 rest)
coded n v s rest from fits here =
    let power : 2 ^ suc n ≡ 2 * 2 ^ n = pow-succ' 2 n in
    let half : v / 2 < 2 ^ n = omega (arith, power) in
    let free : end_code (0 + n) ≤ 0 * 2 ^ n + v / 2 = rw zero-add (omega (arith, first_code-suc n)) in
    let split : low_bits (suc n) v ++ rest ≡ low_bits n (v / 2) ++ (v % 2 ∷ rest) = split_last n v rest in
    let front = gathered n 0 0 (v / 2) (v % 2 ∷ rest) half free in
    let state : octets_from (0 + n) (0 * 2 ^ n + v / 2) (v % 2 ∷ rest) ≡ octets_from n (v / 2) (v % 2 ∷ rest) = rw (zero-add, zero-mul, zero-add) refl in
    let bits : n + 1 ≡ suc n = omega arith in
    let value : 2 * (v / 2) + v % 2 ≡ v = omega arith in
    let found : symbol_at (n + 1) (2 * (v / 2) + v % 2) ≡ Some s = rw (bits, value) here in
    ap (octets_from 0 0) split ∙ front ∙ state ∙ octets_from-some n (v / 2) (v % 2) s rest found

-- the end, shifted to more bits, is below their codes
pub end_code-ahead : (d n : ℕ) → end_code n * 2 ^ suc d ≤ first_code (n + suc d)
end_code-ahead zero n = let one : n + 1 ≡ suc n = omega arith in rw (one, first_code-suc n) (omega arith)
end_code-ahead (suc d) n =
    let more : n + suc (suc d) ≡ suc (n + suc d) = omega arith in
    let power : 2 ^ suc (suc d) ≡ 2 ^ suc d * 2 = pow-suc 2 (suc d) in
    let shifted : end_code n * (2 ^ suc d * 2) ≡ end_code n * 2 ^ suc d * 2 = sym (mul_assoc (end_code n) (2 ^ suc d) 2) in
    rw (more, first_code-suc (n + suc d), power, shifted) (omega (arith, end_code-ahead d n))
