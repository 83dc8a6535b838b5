-- Numbers within names.
use Rattle.std.proofs.Common.{◌≡◌, ℕ, ◌<◌, ◌≤◌, ◌^◌, ◌+◌, Bool, true, false, List, [], ◌∷◌, length, ◌%◌, lit<, IsTrue, Some, None, Result, Ok, Err, refl, sym, ap, subst, ◌∙◌, arith, decimal}
use Rattle.std.specs.Prelude.{◌&&◌, ◌||◌, ◌==◌, nat_le, nat_lt, if◌then◌else◌}
use Rattle.std.specs.List.{All, list_all}
use Rattle.std.specs.Int.{is_in_range}
use Rattle.std.proofs.Math.Nat.{mod-lt}
use Rattle.std.specs.Str.{bytes_eq}
use Rattle.std.specs.Str.Parse.{ParsesUnsigned, digits_value}
use Rattle.std.proofs.lemmas.Bool.{and_parts, and_from, both_ways, ltb-true, lt-ltb, le-leb, ne_eqb}
use Rattle.std.proofs.lemmas.Fmt.{decimal_is_IsNumeral, decimal_nonempty, length-decimal-le, parse-decimal, decimal_by_steps}
use Rattle.std.proofs.lemmas.List.Sums.{list_all-from_AllPass}
use Rattle.std.proofs.lemmas.List.Elements.{All-weaker, All-append, All-cons, All-nil}
use Rattle.std.proofs.lemmas.Slice.Eq.{bytes_eq-Decides}
use Rattle.resource_names.specs.declared.parts.TheConstants.{MAX_PART_BYTES}
use Rattle.resource_names.specs.Number.{number_by, number_of}
use Rattle.resource_names.specs.Part.{is_part_byte, has_part_len, is_part}
use Rattle.resource_names.proofs.PartLemmas.{if_some, if_true, some_same, none_if}

by_value : (text : List ℕ) (value n : ℕ) → number_by text value ≡ Some n → (text ≡ decimal n) × (n < 2 ^ 32)
by_value text value n e =
    let got = if_some (bytes_eq (decimal value) text && nat_lt value (2 ^ 32)) (Some value) n e in
    let both = and_parts (bytes_eq (decimal value) text) (nat_lt value (2 ^ 32)) got.0 in
    let same = some_same value n got.1 in
    (sym ((bytes_eq-Decides (decimal value) text).0 both.0) ∙ ap decimal same, subst (λ (m : ℕ). m < 2 ^ 32) same (ltb-true value (2 ^ 32) both.1))

pub number_spelled : (text : List ℕ) (n : ℕ) → number_of text ≡ Some n → (text ≡ decimal n) × (n < 2 ^ 32)
unfolding number_of
number_spelled text n e = by_value text (digits_value 10 text) n e

number_by_itself : (n : ℕ) → n < 2 ^ 32 → number_by (decimal n) n ≡ Some n
number_by_itself n small =
    if_true (bytes_eq (decimal n) (decimal n) && nat_lt n (2 ^ 32)) (Some n)
    (and_from (bytes_eq (decimal n) (decimal n)) (nat_lt n (2 ^ 32)) ((bytes_eq-Decides (decimal n) (decimal n)).1 refl) (lt-ltb n (2 ^ 32) small))

pub wide : (n : ℕ) → n < 2 ^ 32 → n < 2 ^ 64
wide n small = omega (arith, small)

pub number_of-decimal : (n : ℕ) → n < 2 ^ 32 → number_of (decimal n) ≡ Some n
unfolding number_of
number_of-decimal n small = ap (number_by (decimal n)) (decimal_is_IsNumeral n (wide n small)).1 ∙ number_by_itself n small

pub spelled_number : (text : List ℕ) (n : ℕ) → n < 2 ^ 32 → text ≡ decimal n → number_of text ≡ Some n
spelled_number text n small e = ap number_of e ∙ number_of-decimal n small

-- a text that parses to no number with this decimal is that of no number
pub no_number : {E : Type 0} → (text : List ℕ) (r : Result ℕ E) → ParsesUnsigned 32 10 text r → ((n : ℕ) → r ≡ Ok n → bytes_eq (decimal n) text ≡ false) → number_of text ≡ None
no_number text r parses other =
    none_if (number_of text) (λ n e.
    let spelled = number_spelled text n e in
    both_ways (bytes_eq (decimal n) text) (other n (parse-decimal 32 n text r spelled.1 (wide n spelled.1) spelled.0 parses)) ((bytes_eq-Decides (decimal n) text).1 (sym spelled.0)))

ok_same : {E : Type 0} → (r : Result ℕ E) (a b : ℕ) → r ≡ Ok a → r ≡ Ok b → a ≡ b
ok_same r a b e f = cc

ok_small : {E : Type 0} → (text : List ℕ) (r : Result ℕ E) (n : ℕ) → ParsesUnsigned 32 10 text r → r ≡ Ok n → n < 2 ^ 32
ok_small text (Ok m) n parses is = omega (arith, parses.0.1, parses.1, ok_same (Ok m) m n refl is)
ok_small text (Err e) n parses is = absurd cc

-- a number that was parsed is that of the text where the text is its decimal
by_test : {E : Type 0} → (text : List ℕ) (r : Result ℕ E) (n : ℕ) (same : Bool) → bytes_eq (decimal n) text ≡ same → ParsesUnsigned 32 10 text r → r ≡ Ok n
    → (if same then Some n else None) ≡ number_of text
by_test text r n true e parses is = sym (spelled_number text n (ok_small text r n parses is) (sym ((bytes_eq-Decides (decimal n) text).0 e)))
by_test text r n false e parses is =
    sym (no_number text r parses (λ m other. subst (λ (k : ℕ). bytes_eq (decimal k) text ≡ false) (ok_same r n m is other) e))

pub parsed : {E : Type 0} → (text : List ℕ) (r : Result ℕ E) (n : ℕ) → ParsesUnsigned 32 10 text r → r ≡ Ok n → (if bytes_eq (decimal n) text then Some n else None) ≡ number_of text
parsed text r n parses is = by_test text r n (bytes_eq (decimal n) text) refl parses is

not_ok : {E : Type 0} → (r : Result ℕ E) (e : E) (n : ℕ) → r ≡ Err e → r ≡ Ok n → ⊥
not_ok r e n is other = absurd cc

pub unparsed : {E : Type 0} → (text : List ℕ) (r : Result ℕ E) (e : E) → ParsesUnsigned 32 10 text r → r ≡ Err e → None ≡ number_of text
unparsed text r e parses is = sym (no_number text r parses (λ n other. absurd (not_ok r e n is other)))

not_empty : (n : ℕ) → n < 2 ^ 32 → [] ≡ decimal n → ⊥
not_empty n small e = let some = decimal_nonempty n (wide n small) in omega (arith, some, ap length e)

pub number_of-nil : number_of [] ≡ None
number_of-nil = none_if (number_of []) (λ n e. let spelled = number_spelled [] n e in not_empty n spelled.1 spelled.0)

-- the digits of a number are bytes of a part, and no dash
abbrev pub IsDigit : ℕ → Type 0
IsDigit b = (48 ≤ b) × (b ≤ 57)

pub all_digits : (n : ℕ) → n < 2 ^ 64 → All IsDigit (decimal n)
all_digits n small =
    decimal_by_steps (λ m ds. All IsDigit ds)
    (λ m one. All-cons IsDigit (48 + m) [] (omega (arith, one), omega (arith, one)) (All-nil IsDigit))
    (λ m ds more front. All-append IsDigit ds ((48 + m % 10) ∷ []) front (All-cons IsDigit (48 + m % 10) [] (omega arith, omega (arith, mod-lt m {m = 10} (lit< tt))) (All-nil IsDigit)))
    n small

digit_byte : (b : ℕ) → IsDigit b → is_part_byte b ≡ true
digit_byte b is =
    ap (λ (digit : Bool). ((((((digit || is_in_range 65 90 b) || is_in_range 97 122 b) || b == 95) || b == 45) || b == 46) || b == 58))
    (and_from (nat_le 48 b) (nat_le b 57) (le-leb 48 b is.0) (le-leb b 57 is.1))

pub digit_is_no_dash : (b : ℕ) → IsDigit b → (b == 45) ≡ false
digit_is_no_dash b is = ne_eqb b 45 (λ e. omega (arith, e, is.0))

pub decimal_bytes : (n : ℕ) → n < 2 ^ 32 → All (λ b. is_part_byte b ≡ true) (decimal n)
decimal_bytes n small = All-weaker IsDigit (λ b. is_part_byte b ≡ true) digit_byte (decimal n) (all_digits n (wide n small))

pub decimal_short : (n : ℕ) → n < 2 ^ 32 → length (decimal n) ≤ 10
decimal_short n small = length-decimal-le 10 n (lit< tt) (omega (arith, small)) (wide n small)

-- bytes of a part, of the right number
pub part_from : (text : List ℕ) → 1 ≤ length text → length text ≤ 128 → All (λ b. is_part_byte b ≡ true) text → IsTrue (is_part text)
part_from text some few bytes =
    and_from (has_part_len text) (list_all is_part_byte text)
    (and_from (nat_le 1 (length text)) (nat_le (length text) MAX_PART_BYTES) (le-leb 1 (length text) some) (le-leb (length text) 128 few))
    (list_all-from_AllPass is_part_byte text bytes)

pub decimal_is_part : (n : ℕ) → n < 2 ^ 32 → IsTrue (is_part (decimal n))
decimal_is_part n small =
    let most = decimal_short n small in
    let least = decimal_nonempty n (wide n small) in
    part_from (decimal n) (omega (arith, least)) (omega (arith, most)) (decimal_bytes n small)
