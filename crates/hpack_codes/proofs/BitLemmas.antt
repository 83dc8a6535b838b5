-- Bits of numbers and of bytes.
use Rattle.std.proofs.Common.{◌≡◌, ℕ, zero, suc, ◌+◌, ◌*◌, ◌/◌, ◌%◌, ◌^◌, ◌<◌, List, ◌++◌, length, drop, get_or, refl, sym, ap, ◌∙◌, append_assoc, arith, add-one, zero-add, drop-cons}
use Rattle.std.proofs.Math.Nat.{pow-succ', mul_assoc, mul-add-div_right, mod-lt, div-add-mod', add_comm}
use Rattle.std.proofs.lemmas.Nat.{pow_pos, pow-add, shr-shr, div-mul-add}
use Rattle.hpack_codes.specs.Bits.{low_bits, bits_of}

pub length-low_bits : (n v : ℕ) → length (low_bits n v) ≡ n
unfolding low_bits
length-low_bits zero v = refl
length-low_bits (suc n) v = ap suc (length-low_bits n v)

-- the higher part of a number doesn't show in its low bits
pub low_bits-high : (n x y : ℕ) → low_bits n (x * 2 ^ n + y) ≡ low_bits n y
unfolding low_bits
low_bits-high zero x y = refl
low_bits-high (suc n) x y =
    let split : x * 2 ^ suc n ≡ x * 2 * 2 ^ n = rw pow-succ' (sym (mul_assoc x 2 (2 ^ n))) in
    let quotient : (x * 2 * 2 ^ n + y) / 2 ^ n ≡ x * 2 + y / 2 ^ n = mul-add-div_right (pow_pos n) (x * 2) y in
    let bit : (x * 2 + y / 2 ^ n) % 2 ≡ y / 2 ^ n % 2 = omega arith in
    rw (split, quotient, bit, low_bits-high n (x * 2) y) refl

-- a number in two parts
pub low_bits-append : (a b x y : ℕ) → y < 2 ^ b → low_bits (a + b) (x * 2 ^ b + y) ≡ low_bits a x ++ low_bits b y
unfolding low_bits
low_bits-append zero b x y h = rw zero-add (low_bits-high b x y)
low_bits-append (suc a) b x y h =
    let more : suc a + b ≡ suc (a + b) = omega arith in
    let top : (x * 2 ^ b + y) / 2 ^ (a + b) ≡ x / 2 ^ a = rw (add_comm a b, ← shr-shr (x * 2 ^ b + y) b a, div-mul-add x (2 ^ b) y h) refl in
    rw more (rw (top, low_bits-append a b x y h) refl)

-- the high bits of a number and its low ones
pub low_bits-split : (n m v : ℕ) → low_bits (n + m) v ≡ low_bits n (v / 2 ^ m) ++ low_bits m (v % 2 ^ m)
low_bits-split n m v =
    let parts : v / 2 ^ m * 2 ^ m + v % 2 ^ m ≡ v = div-add-mod' v (2 ^ m) in
    let below : v % 2 ^ m < 2 ^ m = mod-lt v (pow_pos m) in
    ap (low_bits (n + m)) (sym parts) ∙ low_bits-append n m (v / 2 ^ m) (v % 2 ^ m) below

-- only the low bits count
pub low_bits-mod : (n v : ℕ) → low_bits n v ≡ low_bits n (v % 2 ^ n)
low_bits-mod n v = ap (low_bits n) (sym (div-add-mod' v (2 ^ n))) ∙ low_bits-high n (v / 2 ^ n) (v % 2 ^ n)

-- one more byte is taken
pub taken : (count kept at : ℕ) (bytes : List ℕ) → at < length bytes → get_or bytes at 0 < 256 → low_bits (count + 8) (kept * 256 + get_or bytes at 0) ++ bits_of (drop (at + 1) bytes) ≡ low_bits count kept ++ bits_of (drop at bytes)
taken count kept at bytes within fits =
    let byte = get_or bytes at 0 in
    let behind : bits_of (drop at bytes) ≡ low_bits 8 byte ++ bits_of (drop (at + 1) bytes) = rw (drop-cons bytes at 0, add-one) refl in
    rw (low_bits-append count 8 kept byte fits, behind) (append_assoc (low_bits count kept) (low_bits 8 byte) (bits_of (drop (at + 1) bytes)))

pub kept_fits : (count kept byte : ℕ) → kept < 2 ^ count → byte < 256 → kept * 256 + byte < 2 ^ (count + 8)
kept_fits count kept byte fits small = rw pow-add (omega arith)
