-- Numbers and days in text.
use Rattle.std.proofs.Common.{◌≡◌, ℕ, zero, suc, ◌+◌, ◌-◌, ◌<◌, ◌≤◌, ◌^◌, ◌↔◌, Bool, true, false, ◌&&◌, List, [], ◌∷◌, length, take, drop, get_or, refl, sym, ◌∙◌, ap, ap₂, subst, arith, Result, Ok, Err, IsOk, IfOk, Option, Some, None, IfSome, ℤ, pos, nat_le, if◌then◌else◌, le-leb, leb-false, pow_mono, unsigned_abs}
use Rattle.std.specs.Char.{is_ascii_digit}
use Rattle.std.specs.List.{list_all}
use Rattle.std.specs.Result.{result_ok}
use Rattle.std.specs.Str.{all_ascii_digits}
use Rattle.std.specs.Str.Parse.{digits_value, ParsesUnsigned}
use Rattle.std.proofs.lemmas.Bool.Decides.{nat_tests}
use Rattle.std.proofs.lemmas.Nat.{pow_below}
use Rattle.std.proofs.lemmas.Str.Parse.{IsNumeralModel, numerals_by_value, tells_all_ascii_digits, parse_gives, digits_value_short}
use Rattle.std.proofs.lemmas.Int.{ints}
use Rattle.jiff.specs.Words.{epoch_day, IsDate, IsYmd, days_in_month}
use Rattle.jiff_core.specs.Calendar.{days_from_civil}
use Rattle.jiff_core.specs.declared.civil.date.Date.{Date}
use Rattle.filter.specs.Literal.{number_in, number_at, civil_day}

own : IsNumeralModel (λ ds. all_ascii_digits ds ≡ true) (digits_value 10)
own = numerals_by_value _ tells_all_ascii_digits

pub all_digits : (bytes : List ℕ) → list_all is_ascii_digit bytes ≡ all_ascii_digits bytes
all_digits [] = refl
all_digits (b ∷ bytes) = ap (λ rest. is_ascii_digit b && rest) (all_digits bytes)

number_of : (digits : List ℕ) (n : ℕ) → all_ascii_digits digits ≡ true → number_in digits ≡ Some (digits_value 10 digits)
number_of digits n e = rw e refl

pub number_read : {E : Type 0} (digits : List ℕ) (r : Result ℕ E) → ParsesUnsigned 16 10 digits r → all_ascii_digits digits ≡ true → 0 < length digits → length digits ≤ 4 → result_ok r ≡ number_in digits
number_read digits r h e some few =
    let small : digits_value 10 digits < 10 ^ 4 = digits_value_short own digits 4 e few in
    ap result_ok (parse_gives own 16 digits r h e some (omega arith)) ∙ sym (number_of digits 0 e)

pub number_small : (digits : List ℕ) (r : Option ℕ) → r ≡ number_in digits → all_ascii_digits digits ≡ true → IfSome r (λ n. n < 10 ^ length digits)
number_small digits r is e = subst (λ r. IfSome r (λ n. n < 10 ^ length digits)) (sym (is ∙ number_of digits 0 e)) (digits_value_short own digits (length digits) e (omega arith))

pub fraction_read : {E : Type 0} (digits : List ℕ) (r : Result ℕ E) → ParsesUnsigned 64 10 digits r → all_ascii_digits digits ≡ true → 1 ≤ length digits → length digits ≤ 6 → r ≡ Ok (digits_value 10 digits)
fraction_read digits r h e some few =
    let small : digits_value 10 digits < 10 ^ 6 = digits_value_short own digits 6 e few in
    parse_gives own 64 digits r h e some (omega arith)

pub fraction_small : (digits : List ℕ) → all_ascii_digits digits ≡ true → length digits ≤ 6 → digits_value 10 digits < 1_000_000
fraction_small digits e few = digits_value_short own digits 6 e few

pub number_short : (text : List ℕ) (at len : ℕ) → length text < at + len → None ≡ number_at text at len
unfolding number_at
number_short text at len h = let no : nat_le (at + len) (length text) ≡ false = grind (arith, nat_tests) in rw no refl

pub number_here : (text : List ℕ) (at len : ℕ) (r : Option ℕ) → at + len ≤ length text → r ≡ number_in (take ((at + len) - at) (drop at text)) → r ≡ number_at text at len
unfolding number_at
number_here text at len r h e =
    let yes : nat_le (at + len) (length text) ≡ true = le-leb (at + len) (length text) h in
    let back : (at + len) - at ≡ len = omega arith in
    rw yes (e ∙ ap (λ k. number_in (take k (drop at text))) back)

pub ok_same : {E : Type 0} (r : Result ℕ E) (a b : ℕ) → r ≡ Ok a → r ≡ Ok b → a ≡ b
ok_same r a b x y = cc

all_five : (a b c d e : Bool) → a ≡ true → b ≡ true → c ≡ true → d ≡ true → e ≡ true → a && b && c && d && e ≡ true
all_five a b c d e p q r s t = rw (p, q, r, s, t) refl

if_true : (b : Bool) (n : ℤ) → b ≡ true → (if b then Some n else None) ≡ Some n
if_true b n e = rw e refl

civil_pos : {E : Type 0} (y m d : ℕ) (r : Result Date E) (date : Date) → (y ≡ 0 → ⊥) → (IsOk r → IsDate (pos y) (pos m) (pos d)) → IfOk r (IsYmd (pos y) (pos m) (pos d)) → result_ok r ≡ Some date →
    Some (epoch_day date) ≡ civil_day y m d
civil_pos y m d (Ok x) date some is_date is_ymd e =
    let same : x ≡ date = cc in
    let real = is_date refl in
    let low_m : 1 ≤ m = omega (arith, ints, real.1.0) in
    let high_m : m ≤ 12 = omega (arith, ints, real.1.1) in
    let low_d : 1 ≤ d = omega (arith, ints, real.2.0) in
    let high_d : d ≤ days_in_month (pos y) m = omega (arith, ints, real.2.1) in
    let tests : nat_le 1 y && nat_le 1 m && nat_le m 12 && nat_le 1 d && nat_le d (days_in_month (pos y) m) ≡ true
    = all_five (nat_le 1 y) (nat_le 1 m) (nat_le m 12) (nat_le 1 d) (nat_le d (days_in_month (pos y) m))
    (le-leb 1 y (omega arith)) (le-leb 1 m low_m) (le-leb m 12 high_m) (le-leb 1 d low_d) (le-leb d (days_in_month (pos y) m) high_d) in
    let month : x.month ≡ m = pos_same x.month m is_ymd.1 in
    let day : x.day ≡ d = pos_same x.day d is_ymd.2 in
    ap (λ date. Some (epoch_day date)) (sym same)
    ∙ ap (λ y. Some (days_from_civil y x.month x.day)) is_ymd.0
    ∙ ap₂ (λ m d. Some (days_from_civil (pos y) m d)) month day
    ∙ sym (if_true (nat_le 1 y && nat_le 1 m && nat_le m 12 && nat_le 1 d && nat_le d (days_in_month (pos y) m)) (days_from_civil (pos y) m d) tests)
  where
    pos_same : (a b : ℕ) → pos a ≡ pos b → a ≡ b
    pos_same a b e = cc
civil_pos y m d (Err error) date some is_date is_ymd e = absurd (cc)

pub civil_ok : {E : Type 0} (y m d : ℕ) (year month day : ℤ) (r : Result Date E) (date : Date) (n : ℤ) → year ≡ pos y → month ≡ pos m → day ≡ pos d → (y ≡ 0 → ⊥) →
    (IsOk r → IsDate year month day) → IfOk r (IsYmd year month day) → result_ok r ≡ Some date → n ≡ epoch_day date → Some n ≡ civil_day y m d
civil_ok y m d year month day r date n is_y is_m is_d some is_date is_ymd e is_n =
    let P : ℤ → ℤ → ℤ → Type 0 = λ a b c. (IsOk r → IsDate a b c) × IfOk r (IsYmd a b c) in
    let p : P year month day = (is_date, is_ymd) in
    let q : P (pos y) month day = subst (λ a. P a month day) is_y p in
    let s : P (pos y) (pos m) day = subst (λ b. P (pos y) b day) is_m q in
    let t : P (pos y) (pos m) (pos d) = subst (λ c. P (pos y) (pos m) c) is_d s in
    ap Some is_n ∙ civil_pos y m d r date some t.0 t.1 e
