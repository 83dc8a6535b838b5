-- The values of literals are of their column's kind, and within its range.
use Rattle.std.proofs.Common.{◌≡◌, ℕ, suc, ◌+◌, ◌<◌, ◌≤◌, ◌^◌, inl, inr, Bool, true, false, ◌&&◌, List, [], ◌∷◌, length, take, drop, refl, ap, subst, arith, Option, Some, None, option_map, option_and_then, ℤ, pos, neg_ℤ, ◌≤ℤ◌, nat_le, if◌then◌else◌, leb-true, length-take}
use Rattle.std.specs.Prelude.{IsTrue, ◌==◌, int_le}
use borrow.Author.Differences.{up, down}
use Rattle.std.specs.List.{list_all}
use Rattle.std.specs.Str.{all_ascii_digits}
use Rattle.std.specs.Str.Parse.{digits_value}
use Rattle.std.proofs.lemmas.Bool.{and_parts, and_from, cases_order}
use Rattle.std.proofs.lemmas.Int.{ints}
use Rattle.std.proofs.lemmas.Str.Parse.{IsNumeralModel, numerals_by_value, tells_all_ascii_digits, digits_value_short}
use Rattle.jiff_core.specs.Calendar.{days_in_month, days_from_civil, day_count}
use Rattle.jiff_core.proofs.SignedLemmas.{signed_arith}
use Rattle.jiff_core.proofs.CalendarLemmas.{days_from_civil-day_count, day_count_bounds, day_count-day_of_year, day_count-later_year}
use Rattle.jiff_core.proofs.MarchLemmas.{day_count-early}
use Rattle.column_types.specs.Row.{is_between, is_of_kind}
use Rattle.column_types.specs.Typed.{is_literal}
use Rattle.column_types.specs.declared.cell.Cell.{Cell}
use Rattle.column_types.specs.declared.cell.Cell.TheVariants as cell
use Rattle.column_types.specs.declared.column.Kind.{Kind}
use Rattle.column_types.specs.declared.column.Kind.TheVariants as kind
use Rattle.column_types.specs.declared.ranges.TheConstants.{FIRST_DAY, LAST_DAY, FIRST_INSTANT, LAST_INSTANT}
use Rattle.filter.specs.declared.literal.Literal.{Literal}
use Rattle.filter.specs.declared.literal.Literal.TheVariants as literal
use Rattle.filter.specs.Literal.{number_in, number_at, has_at, civil_day, day_at, date_of, seconds_at, fraction_at, zone_of, micros_of, instant_of, date_cell, timestamp_cell, cell_of, cells_of}

own : IsNumeralModel (λ ds. all_ascii_digits ds ≡ true) (digits_value 10)
own = numerals_by_value _ tells_all_ascii_digits

-- a value that is given under a test
given_if : {A : Type 0} (b : Bool) (x y : A) → (if b then Some x else None) ≡ Some y → (b ≡ true) × (x ≡ y)
given_if true x y e = (refl, cc)
given_if false x y e = absurd (cc)

read_if : {A : Type 0} (b : Bool) (x : Option A) (y : A) → (if b then x else None) ≡ Some y → x ≡ Some y
read_if true x y e = e
read_if false x y e = absurd (cc)

-- a value that is read behind another
read_then : {A B : Type 0} (read : Option A) (f : A → Option B) (y : B) → option_and_then f read ≡ Some y → (x : A) × (read ≡ Some x) × (f x ≡ Some y)
read_then (Some x) f y e = (x, refl, e)
read_then None f y e = absurd (cc)

number_below : (text : List ℕ) (at len n : ℕ) → number_at text at len ≡ Some n → n < 10 ^ len
unfolding number_at
number_below text at len n e =
    let digits = take len (drop at text) in
    let read = read_if (nat_le (at + len) (length text)) (number_in digits) n e in
    let parts = given_if (all_ascii_digits digits) (digits_value 10 digits) n read in
    subst (λ n. n < 10 ^ len) parts.1 (digits_value_short own digits len parts.0 (omega (arith, length-take len (drop at text))))

-- 0001-01-01 is 3,652,791 days behind 1 January of the year -10000
first_count : day_count (pos 1) 1 1 ≡ 3_652_791
first_count = day_count-early (pos 1) 10000 1 1 refl (omega arith) (omega arith) (omega arith)

year_count : (y : ℕ) → 1 ≤ y → 3_652_791 ≤ day_count (pos y) 1 1
year_count y h =
    elim (cases_order 1 y) [
      | inl e ↦ subst (λ y. 3_652_791 ≤ day_count (pos y) 1 1) e (omega (arith, first_count))
      | inr (inl lt) ↦ omega (arith, first_count, day_count-later_year (pos 1) (pos y) (omega (arith, signed_arith)) (omega (arith, signed_arith)))
      | inr (inr gt) ↦ absurd (omega arith)
    ]

days_in : (y m d : ℕ) → 1 ≤ y → y ≤ 9999 → 1 ≤ m → m ≤ 12 → 1 ≤ d → d ≤ days_in_month (pos y) m → is_between FIRST_DAY LAST_DAY (days_from_civil (pos y) m d) ≡ true
days_in y m d low_y high_y low_m high_m low_d high_d =
    let count = days_from_civil-day_count (pos y) m d in
    let bounds = day_count_bounds (pos y) m d ((omega (arith, signed_arith), omega (arith, signed_arith)), (low_m, high_m), (low_d, high_d)) in
    let least : 3_652_791 ≤ day_count (pos y) m d = omega (arith, year_count y low_y, day_count-day_of_year (pos y) m d low_d) in
    between (days_from_civil (pos y) m d) (day_count (pos y) m d) count least bounds.1
  where
    between : (z : ℤ) (n : ℕ) → up z + 4_371_953 ≡ down z + n → 3_652_791 ≤ n → n ≤ 7_304_849 → is_between FIRST_DAY LAST_DAY z ≡ true
    between z n e low high =
        let low : neg_ℤ (pos 719_162) ≤ℤ z = omega (arith, signed_arith) in
        let high : z ≤ℤ pos 2_932_896 = omega (arith, signed_arith) in
        let first : int_le FIRST_DAY z ≡ true = grind (arith, ints) in
        let last : int_le z LAST_DAY ≡ true = grind (arith, ints) in
        and_from (int_le FIRST_DAY z) (int_le z LAST_DAY) first last

civil_in : (y m d : ℕ) (n : ℤ) → y < 10_000 → civil_day y m d ≡ Some n → is_between FIRST_DAY LAST_DAY n ≡ true
civil_in y m d n small e =
    let parts = given_if (nat_le 1 y && nat_le 1 m && nat_le m 12 && nat_le 1 d && nat_le d (days_in_month (pos y) m)) (days_from_civil (pos y) m d) n e in
    let five = and_parts (nat_le 1 y && nat_le 1 m && nat_le m 12 && nat_le 1 d) _ parts.0 in
    let four = and_parts (nat_le 1 y && nat_le 1 m && nat_le m 12) _ five.0 in
    let three = and_parts (nat_le 1 y && nat_le 1 m) _ four.0 in
    let two = and_parts (nat_le 1 y) _ three.0 in
    subst (λ n. is_between FIRST_DAY LAST_DAY n ≡ true) parts.1
    (days_in y m d (leb-true 1 y two.0) (omega arith) (leb-true 1 m two.1) (leb-true m 12 three.1) (leb-true 1 d four.1) (leb-true d (days_in_month (pos y) m) five.1))

day_in : (text : List ℕ) (n : ℤ) → day_at text ≡ Some n → is_between FIRST_DAY LAST_DAY n ≡ true
unfolding day_at
day_in text n e =
    let read = read_if (has_at text 4 45 && has_at text 7 45) _ n e in
    let year = read_then (number_at text 0 4) _ n read in
    let month = read_then (number_at text 5 2) _ n year.2 in
    let day = read_then (number_at text 8 2) _ n month.2 in
    civil_in year.0 month.0 day.0 n (number_below text 0 4 year.0 year.1) day.2

date_in : (text : List ℕ) (n : ℤ) → date_of text ≡ Some n → is_between FIRST_DAY LAST_DAY n ≡ true
unfolding date_of
date_in text n e = day_in text n (read_if (length text == 10) (day_at text) n e)

instant_in : (text : List ℕ) (n : ℤ) → instant_of text ≡ Some n → is_between FIRST_INSTANT LAST_INSTANT n ≡ true
unfolding instant_of
instant_in text n e =
    let day = read_then (day_at text) _ n e in
    let seconds = read_then (seconds_at text) _ n day.2 in
    let rest = read_then (if nat_le 19 (length text) then Some (drop 19 text) else None) _ n seconds.2 in
    let fraction = read_then (fraction_at rest.0) _ n rest.2 in
    let zone = read_then (zone_of (drop fraction.0.1 rest.0)) _ n fraction.2 in
    let instant = micros_of day.0 seconds.0 fraction.0.0 zone.0 in
    let parts = given_if (int_le FIRST_INSTANT instant && int_le instant LAST_INSTANT) instant n zone.2 in
    subst (λ n. is_between FIRST_INSTANT LAST_INSTANT n ≡ true) parts.1 parts.0

-- an integer of 64 bits, a string of UTF-8, or a literal of another kind
abbrev pub IsLiteralValued : Literal → Type 0
IsLiteralValued (literal.Integer n) = IsTrue (is_of_kind kind.Int64 (cell.Int n))
IsLiteralValued (literal.Str s) = IsTrue (is_of_kind kind.Str (cell.Str s))
IsLiteralValued _ = Unit {0}

abbrev pub AllLiteralValued : List Literal → Type 0
AllLiteralValued [] = Unit {0}
AllLiteralValued (first ∷ more) = IsLiteralValued first × AllLiteralValued more

date_typed : (text : List ℕ) (v : Cell) → date_cell text ≡ Some v → IsTrue (is_literal kind.Date v)
date_typed text v e = at (date_of text) refl e
  where
    at : (read : Option ℤ) → date_of text ≡ read → option_map (λ day. cell.Date day) read ≡ Some v → IsTrue (is_literal kind.Date v)
    at (Some day) is e = let same : cell.Date day ≡ v = cc in subst (λ v. IsTrue (is_literal kind.Date v)) same (date_in text day is)
    at None is e = absurd (cc)

timestamp_typed : (text : List ℕ) (v : Cell) → timestamp_cell text ≡ Some v → IsTrue (is_literal kind.Timestamp v)
timestamp_typed text v e = at (instant_of text) refl e
  where
    at : (read : Option ℤ) → instant_of text ≡ read → option_map (λ instant. cell.Timestamp instant) read ≡ Some v → IsTrue (is_literal kind.Timestamp v)
    at (Some instant) is e = let same : cell.Timestamp instant ≡ v = cc in subst (λ v. IsTrue (is_literal kind.Timestamp v)) same (instant_in text instant is)
    at None is e = absurd (cc)

same_some : {A : Type 0} {x y : A} → Some x ≡ Some y → x ≡ y
same_some e = cc

-- the value of a literal may be compared with a column of the kind
pub cell_typed : (kind : Kind) (l : Literal) (v : Cell) → IsLiteralValued l → cell_of kind l ≡ Some v → IsTrue (is_literal kind v)
unfolding cell_of
cell_typed kind.Int64 (literal.Integer n) v valued e = subst (λ v. IsTrue (is_literal kind.Int64 v)) (same_some e) valued
cell_typed kind.Bool (literal.Bool b) v valued e = subst (λ v. IsTrue (is_literal kind.Bool v)) (same_some e) refl
cell_typed kind.Str (literal.Str s) v valued e = subst (λ v. IsTrue (is_literal kind.Str v)) (same_some e) valued
cell_typed kind.Date (literal.Str s) v valued e = date_typed s v e
cell_typed kind.Date (literal.Date s) v valued e = date_typed s v e
cell_typed kind.Timestamp (literal.Str s) v valued e = timestamp_typed s v e
cell_typed kind.Timestamp (literal.Timestamp s) v valued e = timestamp_typed s v e
cell_typed _ _ v valued e = absurd (cc)

pub cells_typed : (kind : Kind) (literals : List Literal) (values : List Cell) → AllLiteralValued literals → cells_of kind literals ≡ Some values →
    (length values ≡ length literals) × IsTrue (list_all (is_literal kind) values)
unfolding cells_of
cells_typed kind [] values valued e = subst (λ values. (length values ≡ 0) × IsTrue (list_all (is_literal kind) values)) (same_some e) (refl, refl)
cells_typed kind (first ∷ more) values valued e =
    let value = read_then (cell_of kind first) _ values e in
    let rest = read_then (cells_of kind more) _ values value.2 in
    let tail = cells_typed kind more rest.0 valued.1 rest.1 in
    subst (λ values. (length values ≡ suc (length more)) × IsTrue (list_all (is_literal kind) values)) (same_some rest.2)
    (ap suc tail.0, and_from _ _ (cell_typed kind first value.0 valued.0 value.1) tail.1)
