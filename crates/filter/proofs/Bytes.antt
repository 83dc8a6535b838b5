-- Bytes at the front of a text, and the numbers that they spell.
use Rattle.std.proofs.Common.{◌≡◌, ℕ, zero, suc, ◌+◌, ◌-◌, ◌<◌, ◌≤◌, ◌^◌, Bool, true, false, cond, ◌&&◌, List, [], ◌∷◌, ◌++◌, length, take, drop, get_or, IsAscii, refl, sym, ◌∙◌, ap, subst, arith, take_while, Result, Ok, Err, OkIff, Option, Some, None, ℤ, pos, neg_ℤ, w64, nat_lt, nat_le, if◌then◌else◌, lt-ltb, ltb-true, ltb-false, le-leb, leb-true, leb-false, true≢false, Decides, one-add}
use Rattle.std.proofs.Math.Seq.{take-nil, take_all}
use Rattle.std.specs.Char.{is_ascii_digit}
use Rattle.std.specs.List.{prefix_len}
use Rattle.std.specs.Result.{result_ok}
use Rattle.std.specs.Str.{all_ascii_digits}
use Rattle.std.specs.Str.Parse.{digits_value, ParsesSigned}
use Rattle.std.proofs.lemmas.Bool.Decides.{nat_tests}
use Rattle.std.proofs.lemmas.List.Sums.{take_while-cons}
use Rattle.std.proofs.lemmas.Str.Parse.{IsNumeralModel, numerals_by_value, tells_all_ascii_digits, parse_signed_digits, parse_signed_minus}
use Rattle.column_types.specs.Name.{continues_name}
use Rattle.filter.specs.Text.{positive_of, negative_of}

pub both : (a b : Bool) → a && b ≡ true → (a ≡ true) × (b ≡ true)
both true true e = (refl, refl)
both true false e = absurd (cc)
both false b e = absurd (cc)

front_ascii-at : (p : ℕ → Bool) (b : ℕ) (bytes : List ℕ) (v : Bool) → (v ≡ true → b < 128) → IsAscii (take_while p bytes) → IsAscii (cond v (b ∷ take_while p bytes) [])
front_ascii-at p b bytes true small rest zero = small refl
front_ascii-at p b bytes true small rest (suc i) = rest i
front_ascii-at p b bytes false small rest i = omega arith

pub front_ascii : (p : ℕ → Bool) → ((b : ℕ) → p b ≡ true → b < 128) → (bytes : List ℕ) → IsAscii (take_while p bytes)
front_ascii p small [] i = omega arith
front_ascii p small (b ∷ bytes) i = rw (take_while-cons p b bytes) (front_ascii-at p b bytes (p b) (small b) (front_ascii p small bytes) i)

digits_front-at : (b : ℕ) (bytes : List ℕ) (v : Bool) → is_ascii_digit b ≡ v → all_ascii_digits (take_while is_ascii_digit bytes) ≡ true → all_ascii_digits (cond v (b ∷ take_while is_ascii_digit bytes) []) ≡ true
digits_front-at b bytes true e rest = ap (λ v. v && all_ascii_digits (take_while is_ascii_digit bytes)) e ∙ rest
digits_front-at b bytes false e rest = refl

pub digits_front : (bytes : List ℕ) → all_ascii_digits (take_while is_ascii_digit bytes) ≡ true
digits_front [] = refl
digits_front (b ∷ bytes) = rw (take_while-cons is_ascii_digit b bytes) (digits_front-at b bytes (is_ascii_digit b) refl (digits_front bytes))

digit_ascii : (b : ℕ) → is_ascii_digit b ≡ true → b < 128
digit_ascii b e = grind (arith, nat_tests)

pub name_byte_ascii : (b : ℕ) → continues_name b ≡ true → b < 128
name_byte_ascii b e = grind (arith, nat_tests)

pub digits_ascii : (bytes : List ℕ) → all_ascii_digits bytes ≡ true → IsAscii bytes
digits_ascii [] e i = omega arith
digits_ascii (b ∷ bytes) e zero = digit_ascii b (both (is_ascii_digit b) (all_ascii_digits bytes) e).0
digits_ascii (b ∷ bytes) e (suc i) = digits_ascii bytes (both (is_ascii_digit b) (all_ascii_digits bytes) e).1 i

pub signed_ascii : (bytes : List ℕ) → get_or bytes 0 0 ≡ 45 → all_ascii_digits (drop 1 bytes) ≡ true → IsAscii bytes
signed_ascii [] sign e i = omega arith
signed_ascii (b ∷ bytes) sign e zero = omega arith
signed_ascii (b ∷ bytes) sign e (suc i) = digits_ascii bytes e i

pub behind_first : (n : ℕ) (bytes : List ℕ) → drop 1 (take (1 + n) bytes) ≡ take n (drop 1 bytes)
behind_first n [] = ap (drop 1) (take-nil (1 + n)) ∙ sym (take-nil n)
behind_first n (b ∷ bytes) = rw one-add refl

-- `&bytes[1..]`
pub rest_of : (bytes : List ℕ) → take (length bytes - 1) (drop 1 bytes) ≡ drop 1 bytes
rest_of [] = take-nil (length {A = ℕ} [] - 1)
rest_of (b ∷ bytes) = let all : length (b ∷ bytes) - 1 ≡ length bytes = omega arith in rw all (take_all (length bytes) bytes (omega arith))

pub front_of_rest : (p : ℕ → Bool) (n : ℕ) (bytes : List ℕ) → n ≡ prefix_len p (take (length bytes - 1) (drop 1 bytes)) → take n (drop 1 bytes) ≡ take_while p (drop 1 bytes)
front_of_rest p n bytes e = ap (λ n. take n (drop 1 bytes)) (e ∙ ap (prefix_len p) (rest_of bytes))

own : IsNumeralModel (λ ds. all_ascii_digits ds ≡ true) (digits_value 10)
own = numerals_by_value _ tells_all_ascii_digits

-- what a test of two facts leaves of a result
chosen : {E : Type 0} (r : Result ℤ E) (A B : Type 0) (a b : Bool) (x : ℤ) → OkIff r (A × B) x → Decides a A → Decides b B →
    result_ok r ≡ (if a && b then Some x else None)
chosen (Ok y) A B a b x h is_a is_b = rw (is_a.1 h.0.0, is_b.1 h.0.1) (ap Some h.1)
chosen (Err e) A B true true x h is_a is_b = absurd (h (is_a.0 refl, is_b.0 refl))
chosen (Err e) A B true false x h is_a is_b = refl
chosen (Err e) A B false b x h is_a is_b = refl

pub positive_read : {E : Type 0} (digits : List ℕ) (r : Result ℤ E) → ParsesSigned w64 10 digits r → all_ascii_digits digits ≡ true → result_ok r ≡ positive_of digits
positive_read digits r h e =
    chosen r (0 < length digits) (digits_value 10 digits < 2 ^ 63) _ _ _ (parse_signed_digits own w64 digits r h e)
    (ltb-true 0 (length digits), lt-ltb 0 (length digits)) (ltb-true (digits_value 10 digits) (2 ^ 63), lt-ltb (digits_value 10 digits) (2 ^ 63))

-- the same, with the digits tested too
chosen_of : {E : Type 0} (r : Result ℤ E) (D A B : Type 0) (x : ℤ) → OkIff r (D × A × B) x → D → OkIff r (A × B) x
chosen_of (Ok y) D A B x h d = ((h.0.1, h.0.2), h.1)
chosen_of (Err e) D A B x h d = λ p. h (d, p.0, p.1)

pub negative_read : {E : Type 0} (text : List ℕ) (r : Result ℤ E) → ParsesSigned w64 10 text r → get_or text 0 0 ≡ 45 → all_ascii_digits (drop 1 text) ≡ true → result_ok r ≡ negative_of (drop 1 text)
negative_read text r h sign e =
    chosen r (0 < length (drop 1 text)) (digits_value 10 (drop 1 text) ≤ 2 ^ 63) _ _ _
    (chosen_of r (all_ascii_digits (drop 1 text) ≡ true) (0 < length (drop 1 text)) (digits_value 10 (drop 1 text) ≤ 2 ^ 63) _ (parse_signed_minus own w64 text r h sign) e)
    (ltb-true 0 (length (drop 1 text)), lt-ltb 0 (length (drop 1 text))) (leb-true (digits_value 10 (drop 1 text)) (2 ^ 63), le-leb (digits_value 10 (drop 1 text)) (2 ^ 63))
