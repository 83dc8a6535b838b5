-- Digits and the number that they write.
use Rattle.std.proofs.Common.{◌≡◌, ◌∙◌, inl, inr, map, ℕ, ◌<◌, ◌≤◌, ◌^◌, Bool, true, false, List, [], ◌∷◌, length, Some, None, Result, Ok, Err, MatchOption, refl, sym, ap, arith, nat_le, IsTrue}
use Rattle.std.specs.Prelude.{◌&&◌, if◌then◌else◌}
use Rattle.std.specs.Result.{result_ok}
use Rattle.std.specs.Str.{all_ascii_digits}
use Rattle.std.specs.Char.{is_ascii_digit}
use Rattle.std.specs.List.{list_all}
use Rattle.std.specs.Borrow.{Bor}
use Rattle.std.proofs.lemmas.Bool.{cases_lt}
use Rattle.std.specs.Str.Parse.{digits_value, ParsesUnsigned}
use Rattle.std.proofs.lemmas.Str.Parse.{IsNumeralModel, numerals_by_value, tells_all_ascii_digits, parse_digits}
use Rattle.std.specs.Result.{OkIff}
use Rattle.command_line.specs.Numbers.{is_decimal, starts_plainly, are_octets}

digits : IsNumeralModel (λ ds. all_ascii_digits ds ≡ true) (digits_value 10)
digits = numerals_by_value (λ ds. all_ascii_digits ds ≡ true) tells_all_ascii_digits

same_digits : (ds : List ℕ) → list_all is_ascii_digit ds ≡ all_ascii_digits ds
same_digits [] = refl
same_digits (d ∷ ds) = ap (λ b. is_ascii_digit d && b) (same_digits ds)

both : (a b : Bool) → (a && b) ≡ true → (a ≡ true) × (b ≡ true)
both true b e = (refl, e)
both false b e = absurd cc

has_first : (text : List ℕ) → starts_plainly text ≡ true → 0 < length text
has_first [] e = absurd cc
has_first (first ∷ others) e = omega arith

value_or_none : {E : Type 0} (text : List ℕ) (r : Result ℕ E) → 0 < length text → OkIff r ((0 < length text) × (digits_value 10 text < 2 ^ 32)) (digits_value 10 text)
    → MatchOption (result_ok r) (2 ^ 32 ≤ digits_value 10 text) (λ n. n ≡ digits_value 10 text)
value_or_none text (Ok n) some h = h.1
value_or_none text (Err e) some h = elim (cases_lt (digits_value 10 text) (2 ^ 32)) [ inl below ↦ absurd (h (some, below)) | inr past ↦ past ]

pub read_value : {E : Type 0} (text : List ℕ) (r : Result ℕ E) → IsTrue (is_decimal text) → ParsesUnsigned 32 10 text r
    → MatchOption (result_ok r) (2 ^ 32 ≤ digits_value 10 text) (λ n. n ≡ digits_value 10 text)
read_value text r is parsed =
    let parts = both (starts_plainly text) (list_all is_ascii_digit text) is in
    value_or_none text r (has_first text parts.0) (parse_digits digits 32 text r parsed (sym (same_digits text) ∙ parts.1))

-- a number that is past the greatest is none
pub too_great : (least most v : ℕ) (d : Bool) → most < v → None ≡ (if d && (nat_le least v && nat_le v most) then Some v else None)
too_great least most v false past = refl
too_great least most v true past = go (nat_le least v) (nat_le v most) (past_le v most past)
  where
    past_le : (a b : ℕ) → b < a → nat_le a b ≡ false
    past_le a b lt = grind arith

    go : (a b : Bool) → b ≡ false → None ≡ (if (a && b) then Some v else None)
    go false b e = refl
    go true b e = rw e refl

-- other than four parts are no address
pub too_few_octets : (parts : List (Bor (List ℕ))) → length parts < 4 → false ≡ are_octets (map (λ p. p.now) parts)
too_few_octets [] few = refl
too_few_octets (a ∷ []) few = refl
too_few_octets (a ∷ b ∷ []) few = refl
too_few_octets (a ∷ b ∷ c ∷ []) few = refl
too_few_octets (a ∷ b ∷ c ∷ d ∷ others) few = absurd (omega (arith, few))

pub too_many_octets : (parts : List (Bor (List ℕ))) → 4 < length parts → false ≡ are_octets (map (λ p. p.now) parts)
too_many_octets [] many = absurd (omega (arith, many))
too_many_octets (a ∷ []) many = absurd (omega (arith, many))
too_many_octets (a ∷ b ∷ []) many = absurd (omega (arith, many))
too_many_octets (a ∷ b ∷ c ∷ []) many = absurd (omega (arith, many))
too_many_octets (a ∷ b ∷ c ∷ d ∷ []) many = absurd (omega (arith, many))
too_many_octets (a ∷ b ∷ c ∷ d ∷ e ∷ others) many = refl
