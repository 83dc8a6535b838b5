-- The next thirty bits, and what they say of the bits that are kept.
use Rattle.std.proofs.Common.{◌≡◌, ℕ, zero, suc, ◌+◌, ◌-◌, ◌*◌, ◌/◌, ◌%◌, ◌^◌, ◌<◌, ◌≤◌, List, [], ◌++◌, length, drop, Some, Err, ◌⊎◌, refl, sym, ap, subst, ◌∙◌, append_assoc, zero-add, arith, inl, inr}
use Rattle.std.proofs.Math.Nat.{mul-le-mul_right, mul_assoc, zero-mul, mod-eq_of_lt, div-le_self}
use Rattle.std.proofs.lemmas.Nat.{pow_pos, pow-add, shr-shr, one_shl, div-mul-add, div_below, le-div}
use Rattle.std.proofs.Math.ListN.{drop_of_length-le}
use Rattle.std.proofs.lemmas.Bool.{cases_lt, ne_eqb}
use Rattle.std.proofs.lemmas.List.{length-append}
use Rattle.hpack_codes.specs.Bits.{low_bits, bits_of}
use Rattle.hpack_codes.specs.Code.{first_code, symbol_at}
use Rattle.hpack_codes.specs.Huffman.{Decoded, octets_from, padding_of, with_octet}
use Rattle.hpack_codes.specs.Reader.{IsWindow, IsLast, Reads}
use Rattle.hpack_codes.specs.declared.reader.Code.{Code}
use Rattle.hpack_codes.specs.declared.reader.Code.TheVariants.{Octet, Eos, Padding, BadPadding}
use Rattle.hpack_codes.specs.declared.faults.HuffFault.TheVariants as faults
use Rattle.hpack_codes.proofs.BitLemmas.{low_bits-split, length-low_bits}
use Rattle.hpack_codes.proofs.CodeLemmas.{after_code, coded, gathered, end_code-ahead}
use Rattle.hpack_codes.proofs.TableLemmas.{end_code}

pub window_many : (count kept : ℕ) → 30 ≤ count → kept < 2 ^ count → kept / 2 ^ (count - 30) < 2 ^ 30
window_many count kept many fits =
    let power : 2 ^ 30 * 2 ^ (count - 30) ≡ 2 ^ count = sym (pow-add 2 30 (count - 30)) ∙ ap (λ n. 2 ^ n) (let e : 30 + (count - 30) ≡ count = omega arith in e) in
    div_below kept (2 ^ (count - 30)) (2 ^ 30) (pow_pos (count - 30)) (omega (arith, power))

pub window_few : (count kept : ℕ) → count < 30 → kept < 2 ^ count → (kept + 1) * 2 ^ (30 - count) ≤ 2 ^ 30
window_few count kept few fits =
    let power : 2 ^ count * 2 ^ (30 - count) ≡ 2 ^ 30 = sym (pow-add 2 count (30 - count)) ∙ ap (λ n. 2 ^ n) (let e : count + (30 - count) ≡ 30 = omega arith in e) in
    let rows : (kept + 1) * 2 ^ (30 - count) ≤ 2 ^ count * 2 ^ (30 - count) = mul-le-mul_right (2 ^ (30 - count)) (let le : kept + 1 ≤ 2 ^ count = omega arith in le) in
    omega (arith, rows, power)

-- the high bits of the window are those that are kept
pub window_part : (len count kept window : ℕ) → IsWindow count kept window → len ≤ count → len ≤ 30 → window / 2 ^ (30 - len) ≡ kept / 2 ^ (count - len)
window_part len count kept window w some most =
    elim (cases_lt count 30) [
      | inl few ↦
          let power = pow_pos (30 - count) in
          let value : window ≡ kept * 2 ^ (30 - count) + (2 ^ (30 - count) - 1) = omega (arith, w.few few) in
          let high : window / 2 ^ (30 - count) ≡ kept = rw value (div-mul-add kept (2 ^ (30 - count)) (2 ^ (30 - count) - 1) (omega arith)) in
          let bits : 30 - len ≡ 30 - count + (count - len) = omega arith in
          rw (bits, ← shr-shr window (30 - count) (count - len), high) refl
      | inr many ↦
          let bits : count - 30 + (30 - len) ≡ count - len = omega arith in
          rw (w.many many, shr-shr kept (count - 30) (30 - len), bits) refl
    ]

-- fewer bits than the code at the head of the window hold no code
pub window_short : (len count kept window : ℕ) → IsWindow count kept window → count < len → len ≤ 30 → first_code len * 2 ^ (30 - len) ≤ window → end_code count ≤ kept
window_short len count kept window w less most from =
    let d = len - count - 1 in
    let bits : count + suc d ≡ len = omega arith in
    let ahead : end_code count * 2 ^ suc d ≤ first_code len = subst (λ n. end_code count * 2 ^ suc d ≤ first_code n) bits (end_code-ahead d count) in
    let rows : end_code count * 2 ^ suc d * 2 ^ (30 - len) ≤ first_code len * 2 ^ (30 - len) = mul-le-mul_right (2 ^ (30 - len)) ahead in
    let power : 2 ^ suc d * 2 ^ (30 - len) ≡ 2 ^ (30 - count) = sym (pow-add 2 (suc d) (30 - len)) ∙ ap (λ n. 2 ^ n) (let e : suc d + (30 - len) ≡ 30 - count = omega arith in e) in
    let joined : end_code count * 2 ^ suc d * 2 ^ (30 - len) ≡ end_code count * 2 ^ (30 - count) = mul_assoc (end_code count) (2 ^ suc d) (2 ^ (30 - len)) ∙ ap (λ n. end_code count * n) power in
    elim (cases_lt kept (end_code count)) [
      | inl lt ↦
          let more : (kept + 1) * 2 ^ (30 - count) ≤ end_code count * 2 ^ (30 - count) = mul-le-mul_right (2 ^ (30 - count)) (let le : kept + 1 ≤ end_code count = omega arith in le) in
          let ones = w.few (omega arith) in
          absurd (omega (arith, more, ones, rows, joined))
      | inr le ↦ le
    ]

-- a code at the head of the window is read from the kept bits
pub window_code : (len count kept s : ℕ) (tail : List ℕ) → 1 ≤ len → len ≤ count → kept < 2 ^ count → first_code len ≤ kept / 2 ^ (count - len) → symbol_at len (kept / 2 ^ (count - len)) ≡ Some s
    → octets_from 0 0 (low_bits count kept ++ tail) ≡ after_code s (octets_from 0 0 (low_bits (count - len) (kept % 2 ^ (count - len)) ++ tail))
window_code zero count kept s tail some within fits from here = absurd (omega arith)
window_code (suc n) count kept s tail some within fits from here =
    let rest = count - suc n in
    let bits : suc n + rest ≡ count = omega arith in
    let power : 2 ^ suc n * 2 ^ rest ≡ 2 ^ count = sym (pow-add 2 (suc n) rest) ∙ ap (λ m. 2 ^ m) bits in
    let high : kept / 2 ^ rest < 2 ^ suc n = div_below kept (2 ^ rest) (2 ^ suc n) (pow_pos rest) (omega (arith, power)) in
    let split : low_bits count kept ≡ low_bits (suc n) (kept / 2 ^ rest) ++ low_bits rest (kept % 2 ^ rest) = subst (λ m. low_bits m kept ≡ low_bits (suc n) (kept / 2 ^ rest) ++ low_bits rest (kept % 2 ^ rest)) bits (low_bits-split (suc n) rest kept) in
    let regrouped : low_bits count kept ++ tail ≡ low_bits (suc n) (kept / 2 ^ rest) ++ (low_bits rest (kept % 2 ^ rest) ++ tail) = rw split (append_assoc (low_bits (suc n) (kept / 2 ^ rest)) (low_bits rest (kept % 2 ^ rest)) tail) in
    ap (octets_from 0 0) regrouped ∙ coded n (kept / 2 ^ rest) s (low_bits rest (kept % 2 ^ rest) ++ tail) from high here

-- bits that hold no code are the padding
pub window_padding : (count kept : ℕ) → kept < 2 ^ count → end_code count ≤ kept → octets_from 0 0 (low_bits count kept ++ []) ≡ padding_of count kept
unfolding octets_from
window_padding count kept fits free =
    let all : end_code (0 + count) ≤ 0 * 2 ^ count + kept = rw (zero-add, zero-mul, zero-add) free in
    gathered count 0 0 kept [] fits all ∙ rw (zero-add, zero-mul, zero-add) refl

-- fewer bits are left
pub window_shorter : (len count kept rest : ℕ) (tail : List ℕ) → 1 ≤ len → len ≤ count → length (low_bits (count - len) rest ++ tail) < length (low_bits count kept ++ tail)
window_shorter len count kept rest tail some within =
    omega (arith, length-append (low_bits (count - len) rest) tail, length-append (low_bits count kept) tail, length-low_bits (count - len) rest, length-low_bits count kept)

pub window_shifted : (count kept : ℕ) → count < 30 → kept < 2 ^ count → ((kept + 1) * 2 ^ (30 - count)) % 2 ^ 64 ≡ (kept + 1) * 2 ^ (30 - count)
window_shifted count kept few fits = mod-eq_of_lt (omega (arith, window_few count kept few fits))

pub window_some : (count kept : ℕ) → 1 ≤ (kept + 1) * 2 ^ (30 - count)
window_some count kept = omega (arith, pow_pos (30 - count))

pub last_reads : (code : Code) (old new : List ℕ) (count kept : ℕ) → octets_from 0 0 old ≡ padding_of count kept → IsLast code (padding_of count kept) → Reads code old new
last_reads Padding old new count kept e last = e ∙ last
last_reads BadPadding old new count kept e last = e ∙ last
last_reads (Octet s) old new count kept e last = absurd last
last_reads Eos old new count kept e last = absurd last

-- the codes at the window are within the kept bits
pub code_from : (len count kept window : ℕ) → IsWindow count kept window → len ≤ count → len ≤ 30 → first_code len * 2 ^ (30 - len) ≤ window → first_code len ≤ kept / 2 ^ (count - len)
code_from len count kept window w some most from = rw (← window_part len count kept window w some most) (le-div (first_code len) window (2 ^ (30 - len)) (pow_pos (30 - len)) from)

pub code_below : (len count kept window : ℕ) → IsWindow count kept window → len ≤ count → len ≤ 30 → window < end_code len * 2 ^ (30 - len) → kept / 2 ^ (count - len) < end_code len
code_below len count kept window w some most below = rw (← window_part len count kept window w some most) (div_below window (2 ^ (30 - len)) (end_code len) (pow_pos (30 - len)) below)

pub code_small : (len count kept window : ℕ) → IsWindow count kept window → len ≤ count → len ≤ 30 → kept / 2 ^ (count - len) < 2 ^ 30
code_small len count kept window w some most = rw (← window_part len count kept window w some most) (omega (arith, div-le_self window (2 ^ (30 - len)), w.fits))

pub rest_mask : (rest : ℕ) → rest ≤ 37 → (1 * 2 ^ rest) % 2 ^ 64 ≡ 2 ^ rest
rest_mask rest h = one_shl rest 64 (omega arith)

pub drop_all : (at : ℕ) (bytes : List ℕ) → at ≡ length bytes → bits_of (drop at bytes) ≡ []
drop_all at bytes h = rw (drop_of_length-le bytes {i = at} (omega arith)) refl

pub ended : (count at n : ℕ) → (30 ≤ count) ⊎ (at ≡ n) → count < 30 → at ≡ n
ended count at n (inl many) few = absurd (omega arith)
ended count at n (inr e) few = e

pub after_code-eos : (s : ℕ) (later : Decoded) → s ≡ 256 → after_code s later ≡ Err faults.Eos
after_code-eos s later e = rw e refl

pub after_code-octet : (s : ℕ) (later : Decoded) → (s ≡ 256 → ⊥) → after_code s later ≡ with_octet s later
after_code-octet s later ne = rw (ne_eqb s 256 ne) refl
