-- What is read is spelled so, and what is spelled so is read.
use Rattle.std.proofs.Common.{◌≡◌, ℕ, zero, suc, ◌+◌, ◌-◌, ◌*◌, ◌/◌, ◌%◌, ◌^◌, ◌<◌, ◌≤◌, Bool, true, false, cond, eqb, leb, List, [], ◌∷◌, ◌++◌, replicate, Option, Some, None, Ok, Err, inl, inr, ◌⊎◌, refl, sym, ap, subst, ◌∙◌, append_assoc, add-one, arith}
use Rattle.std.specs.List.{flat_map, AllByRecursion}
use Rattle.std.specs.Prelude.{◌&&◌, IfOk}
use Rattle.std.proofs.Math.Nat.{pow-succ'}
use Rattle.std.proofs.lemmas.Bool.{cases_lt, eq-eqb, eqb-true, eqb-false, leb-true, le-leb}
use Rattle.std.proofs.lemmas.Nat.{pow_pos, div-mul-add}
use Rattle.std.proofs.lemmas.List.{append-nil}
use Rattle.std.proofs.lemmas.List.Concat.{flat_map-cons}
use Rattle.hpack_codes.specs.Bits.{low_bits, bits_of}
use Rattle.hpack_codes.specs.Code.{first_code, symbol_at, code_of, eos}
use Rattle.hpack_codes.specs.Huffman.{IsHuffman, Decoded, padding_of, with_octet, octets_from, huffman_of, Gives}
use Rattle.hpack_codes.specs.declared.faults.HuffFault.TheVariants.{Eos, BadPadding}
use Rattle.hpack_codes.proofs.BitLemmas.{low_bits-append, low_bits-high}
use Rattle.hpack_codes.proofs.TableLemmas.{end_code, end_code-fits, end_code-ones, lengths_some, lengths_most}
use Rattle.hpack_codes.proofs.CodeLemmas.{after_code, octets_from-none, octets_from-some, symbol_at-none, coded}
use Rattle.hpack_codes.proofs.WindowLemmas.{window_padding, after_code-octet}
use Rattle.hpack_codes.proofs.PlaceLemmas.{nothing_is, code_of-symbol, symbol_below, code_length, code_value, code_of-is, code_value-from, symbol_at-code}

abbrev pub AreBits : List ℕ → Type 0
AreBits bits = AllByRecursion (λ b. b < 2) bits

-- all ones
low_bits-ones : (n : ℕ) → low_bits n (2 ^ n - 1) ≡ replicate n 1
unfolding low_bits
low_bits-ones zero = refl
low_bits-ones (suc n) =
    let some = pow_pos n in
    let power : 2 ^ suc n ≡ 2 * 2 ^ n = pow-succ' 2 n in
    let value : 2 ^ suc n - 1 ≡ 1 * 2 ^ n + (2 ^ n - 1) = omega (arith, power) in
    let top : (1 * 2 ^ n + (2 ^ n - 1)) / 2 ^ n ≡ 1 = div-mul-add 1 (2 ^ n) (2 ^ n - 1) (omega arith) in
    rw (value, top, low_bits-high n 1 (2 ^ n - 1), low_bits-ones n) refl

option_cases : (o : Option ℕ) → (o ≡ None) ⊎ ((s : ℕ) × (o ≡ Some s))
option_cases None = inl refl
option_cases (Some s) = inr (s, refl)

both_true : (x y : Bool) → (x && y) ≡ true → (x ≡ true) × (y ≡ true)
both_true true y e = (refl, e)
both_true false y e = absurd cc

passed : (b : Bool) (octets : List ℕ) → (let made : Decoded = cond b (Ok []) (Err BadPadding) in made ≡ Ok octets) → (b ≡ true) × (octets ≡ [])
passed true octets e = (refl, cc)
passed false octets e = absurd cc

padding_ok : (n v : ℕ) (octets : List ℕ) → padding_of n v ≡ Ok octets → (n ≤ 7) × (v + 1 ≡ 2 ^ n) × (octets ≡ [])
padding_ok n v octets e =
    let p = passed (leb n 7 && eqb (v + 1) (2 ^ n)) octets e in
    let q = both_true (leb n 7) (eqb (v + 1) (2 ^ n)) p.0 in
    (leb-true n 7 q.0, eqb-true (v + 1) (2 ^ n) q.1, p.1)

after_ok_by : (b : Bool) (s : ℕ) (read : Decoded) (octets : List ℕ) → eqb s eos ≡ b → cond b (Err Eos) (with_octet s read) ≡ Ok octets → (s ≡ 256 → ⊥) × ((rest : List ℕ) × (read ≡ Ok rest) × (octets ≡ s ∷ rest))
after_ok_by true s read octets is e = absurd cc
after_ok_by false s (Ok rest) octets is e = (eqb-false s eos is, (rest, refl, cc))
after_ok_by false s (Err fault) octets is e = absurd cc

after_ok : (s : ℕ) (read : Decoded) (octets : List ℕ) → after_code s read ≡ Ok octets → (s ≡ 256 → ⊥) × ((rest : List ℕ) × (read ≡ Ok rest) × (octets ≡ s ∷ rest))
after_ok s read octets e = after_ok_by (eqb s eos) s read octets refl e

-- what the bits spell, where some came before
pub record Spelled (before bits octets : List ℕ) : Type 0 where
  pub octets_fit : AllByRecursion (λ s. s < 256) octets
  pub padding : ℕ
  pub few : padding ≤ 7
  pub coded : before ++ bits ≡ flat_map code_of octets ++ replicate padding 1

spelled_padding : (n v : ℕ) (octets : List ℕ) → padding_of n v ≡ Ok octets → Spelled (low_bits n v) [] octets
spelled_padding n v octets e =
    let p = padding_ok n v octets e in
    let value : v ≡ 2 ^ n - 1 = omega (arith, p.1) in
    rw p.2 (record { octets_fit = tt; padding = n; few = p.0; coded = append-nil (low_bits n v) ∙ rw value (low_bits-ones n) })

one_bit : (b : ℕ) → b < 2 → low_bits 1 b ≡ b ∷ []
unfolding low_bits
one_bit b h = let e : b / 1 % 2 ≡ b = omega arith in rw e refl

spelled_more : (n v b : ℕ) (bits octets : List ℕ) → b < 2 → Spelled (low_bits (n + 1) (2 * v + b)) bits octets → Spelled (low_bits n v) (b ∷ bits) octets
spelled_more n v b bits octets bit p =
    let value : 2 * v + b ≡ v * 2 ^ 1 + b = omega arith in
    let joined : low_bits (n + 1) (2 * v + b) ≡ low_bits n v ++ b ∷ [] = rw value (low_bits-append n 1 v b bit ∙ ap (λ (xs : List ℕ). low_bits n v ++ xs) (one_bit b bit)) in
    record {
      octets_fit = p.octets_fit;
      padding = p.padding;
      few = p.few;
      coded = sym (append_assoc (low_bits n v) (b ∷ []) bits) ∙ ap (λ (xs : List ℕ). xs ++ bits) (sym joined) ∙ p.coded;
    }

spelled_code : (n v s : ℕ) (bits rest : List ℕ) → symbol_at n v ≡ Some s → (s ≡ 256 → ⊥) → Spelled [] bits rest → Spelled (low_bits n v) bits (s ∷ rest)
spelled_code n v s bits rest here other p = record {
  octets_fit = (omega (arith, symbol_below n v s here), p.octets_fit);
  padding = p.padding;
  few = p.few;
  coded = rw (code_of-symbol n v s here, flat_map-cons, append_assoc (code_of s) (flat_map code_of rest) (replicate p.padding 1)) (ap (λ (xs : List ℕ). code_of s ++ xs) p.coded);
}

octets_from-end : (n v : ℕ) (octets : List ℕ) → octets_from n v [] ≡ Ok octets → padding_of n v ≡ Ok octets
unfolding octets_from
octets_from-end n v octets e = e

no_bits : low_bits 0 0 ≡ []
unfolding low_bits
no_bits = refl

pub spelled : (bits octets : List ℕ) (n v : ℕ) → AreBits bits → v < 2 ^ n → octets_from n v bits ≡ Ok octets → Spelled (low_bits n v) bits octets
spelled [] octets n v are fits e = spelled_padding n v octets (octets_from-end n v octets e)
spelled (b ∷ bits) octets n v are fits e =
    let power : 2 ^ (n + 1) ≡ 2 * 2 ^ n = rw add-one (pow-succ' 2 n) in
    let fits' : 2 * v + b < 2 ^ (n + 1) = omega (arith, power, are.0) in
    elim (option_cases (symbol_at (n + 1) (2 * v + b))) [
      | inl none ↦ spelled_more n v b bits octets are.0 (spelled bits octets (n + 1) (2 * v + b) are.1 fits' (sym (octets_from-none n v b bits none) ∙ e))
      | inr (s, here) ↦
          let after = after_ok s (octets_from 0 0 bits) octets (sym (octets_from-some n v b s bits here) ∙ e) in
          let later : Spelled (low_bits 0 0) bits after.1.0 = spelled bits after.1.0 0 0 are.1 (omega arith) after.1.1 in
          let tail : Spelled [] bits after.1.0 = subst (λ xs. Spelled xs bits after.1.0) no_bits later in
          rw after.1.2 (spelled_more n v b bits (s ∷ after.1.0) are.0 (spelled_code (n + 1) (2 * v + b) s bits after.1.0 here after.0 tail))
    ]

low_bits-AreBits : (n v : ℕ) → AreBits (low_bits n v)
unfolding low_bits
low_bits-AreBits zero v = tt
low_bits-AreBits (suc n) v = (omega arith, low_bits-AreBits n v)

AreBits-append : (xs ys : List ℕ) → AreBits xs → AreBits ys → AreBits (xs ++ ys)
AreBits-append [] ys p q = q
AreBits-append (x ∷ xs) ys p q = (p.0, AreBits-append xs ys p.1 q)

bits_of-AreBits : (bytes : List ℕ) → AreBits (bits_of bytes)
bits_of-AreBits [] = tt
bits_of-AreBits (b ∷ bytes) = rw flat_map-cons (AreBits-append (low_bits 8 b) (bits_of bytes) (low_bits-AreBits 8 b) (bits_of-AreBits bytes))

-- what is read is spelled so
pub huffman_found : (bytes octets : List ℕ) → huffman_of bytes ≡ Ok octets → IsHuffman bytes octets
huffman_found bytes octets e =
    let p = spelled (bits_of bytes) octets 0 0 (bits_of-AreBits bytes) (omega arith) e in
    let q : Spelled [] (bits_of bytes) octets = subst (λ xs. Spelled xs (bits_of bytes) octets) no_bits p in
    record { octets = q.octets_fit; padding = q.padding; few = q.few; coded = q.coded }

-- ---- the other way

code_value-below : (n v s : ℕ) → symbol_at n v ≡ Some s → v < end_code n
code_value-below n v s here =
    elim (cases_lt v (end_code n)) [
      | inl lt ↦ lt
      | inr le ↦ absurd (nothing_is s (sym (symbol_at-none n v le) ∙ here))
    ]

ones_padding : (p : ℕ) → p ≤ 7 → padding_of p (2 ^ p - 1) ≡ Ok []
ones_padding p few =
    let some = pow_pos p in
    rw (le-leb p 7 few, eq-eqb (2 ^ p - 1 + 1) (2 ^ p) (omega arith)) refl

ones_left : (p : ℕ) → p ≤ 7 → octets_from 0 0 (replicate p 1) ≡ Ok []
ones_left p few =
    let some = pow_pos p in
    let bits : replicate p 1 ≡ low_bits p (2 ^ p - 1) ++ [] = sym (append-nil (low_bits p (2 ^ p - 1)) ∙ low_bits-ones p) in
    ap (octets_from 0 0) bits ∙ window_padding p (2 ^ p - 1) (omega arith) (end_code-ones p few) ∙ ones_padding p few

one_octet : (n s : ℕ) (rest : List ℕ) → s < 256 → code_length s ≡ suc n → octets_from 0 0 (code_of s ++ rest) ≡ with_octet s (octets_from 0 0 rest)
one_octet n s rest fits len =
    let here : symbol_at (suc n) (code_value s) ≡ Some s = rw (← len) (symbol_at-code s (omega arith)) in
    let from : first_code (suc n) ≤ code_value s = rw (← len) (code_value-from s) in
    let below : code_value s < 2 ^ suc n = omega (arith, code_value-below (suc n) (code_value s) s here, end_code-fits (suc n) (omega (arith, lengths_most s))) in
    let bits : code_of s ≡ low_bits (suc n) (code_value s) = code_of-is s ∙ ap (λ m. low_bits m (code_value s)) len in
    rw bits (coded n (code_value s) s rest from below here ∙ after_code-octet s (octets_from 0 0 rest) (omega arith))

coded_octets : (octets : List ℕ) (p : ℕ) → AllByRecursion (λ s. s < 256) octets → p ≤ 7 → octets_from 0 0 (flat_map code_of octets ++ replicate p 1) ≡ Ok octets
coded_octets [] p fit few = ones_left p few
coded_octets (s ∷ octets) p fit few =
    let len : code_length s ≡ suc (code_length s - 1) = omega (arith, lengths_some s (omega (arith, fit.0))) in
    let regrouped : flat_map code_of (s ∷ octets) ++ replicate p 1 ≡ code_of s ++ (flat_map code_of octets ++ replicate p 1) = ap (λ (xs : List ℕ). xs ++ replicate p 1) (flat_map-cons code_of s octets) ∙ append_assoc (code_of s) (flat_map code_of octets) (replicate p 1) in
    ap (octets_from 0 0) regrouped ∙ one_octet (code_length s - 1) s (flat_map code_of octets ++ replicate p 1) fit.0 len ∙ ap (with_octet s) (coded_octets octets p fit.1 few)

-- what is spelled so is read
pub huffman_only : (bytes octets : List ℕ) → IsHuffman bytes octets → huffman_of bytes ≡ Ok octets
huffman_only bytes octets p = ap (octets_from 0 0) p.coded ∙ coded_octets octets p.padding p.octets p.few

pub is_found : (bytes : List ℕ) (r : Decoded) → Gives r (huffman_of bytes) → IfOk r (λ octets. IsHuffman bytes octets)
is_found bytes (Ok octets) given = huffman_found bytes octets given
is_found bytes (Err fault) given = tt

pub is_only : (bytes octets : List ℕ) (r : Decoded) → Gives r (huffman_of bytes) → IsHuffman bytes octets → Gives r (Ok octets)
is_only bytes octets r given p = subst (λ read. Gives r read) (huffman_only bytes octets p) given
