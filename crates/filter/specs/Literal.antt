-- What a literal is as a value of a column.
use Rattle.std.specs.Prelude.{ℕ, ◌+◌, ◌-◌, ◌*◌, ◌^◌, ℤ, pos, neg_ℤ, ◌+ℤ◌, ◌-ℤ◌, ◌*ℤ◌, int_le, Bool, ◌&&◌, ◌||◌, ◌==◌, nat_lt, nat_le, if◌then◌else◌, List, [], ◌∷◌, length, take, drop, Option, Some, None, option_map, option_and_then, slice_index, codes}
use Rattle.std.specs.Char.{is_ascii_digit}
use Rattle.std.specs.List.{prefix_len}
use Rattle.std.specs.Str.{all_ascii_digits, bytes_eq}
use Rattle.std.specs.Str.Parse.{digits_value}
use Rattle.jiff_core.specs.Calendar.{days_in_month, days_from_civil}
use Rattle.column_types.specs.declared.cell.Cell.{Cell}
use Rattle.column_types.specs.declared.cell.Cell.TheVariants as cell
use Rattle.column_types.specs.declared.column.Kind.{Kind}
use Rattle.column_types.specs.declared.column.Kind.TheVariants as kind
use Rattle.column_types.specs.declared.ranges.TheConstants.{FIRST_INSTANT, LAST_INSTANT}
use Rattle.filter.specs.declared.literal.Literal.{Literal}
use Rattle.filter.specs.declared.literal.Literal.TheVariants as literal

infixl 10 ◌>>=◌
abbrev pub ◌>>=◌ : {A B : Type 0} → Option A → (A → Option B) → Option B
read >>= f = option_and_then f read

-- the number that digits spell; None for other bytes
abbrev pub number_in : List ℕ → Option ℕ
number_in digits = if all_ascii_digits digits then Some (digits_value 10 digits) else None

-- the number that so many digits from place `at` on spell; None where other bytes stand there
unfoldable pub number_at : List ℕ → ℕ → ℕ → Option ℕ
number_at text at len = if nat_le (at + len) (length text) then number_in (take len (drop at text)) else None

-- the same, where the number is at most this
abbrev pub at_most : ℕ → Option ℕ → Option ℕ
at_most most read = read >>= λ n. if nat_le n most then Some n else None

-- the text has this byte at this place
abbrev pub has_at : List ℕ → ℕ → ℕ → Bool
has_at text at byte = nat_lt at (length text) && slice_index text at == byte

-- a day of the proleptic Gregorian calendar from year 1 on, in days since 1970-01-01
abbrev pub civil_day : ℕ → ℕ → ℕ → Option ℤ
civil_day year month day =
    if nat_le 1 year && nat_le 1 month && nat_le month 12 && nat_le 1 day && nat_le day (days_in_month (pos year) month)
    then Some (days_from_civil (pos year) month day) else None

-- the day of a text that begins with `YYYY-MM-DD`; 45 is `-`
unfoldable pub day_at : List ℕ → Option ℤ
day_at text =
    if has_at text 4 45 && has_at text 7 45 then (do
      year ← number_at text 0 4
      month ← number_at text 5 2
      day ← number_at text 8 2
      civil_day year month day)
    else None

-- a date text is `YYYY-MM-DD`
unfoldable pub date_of : List ℕ → Option ℤ
date_of text = if length text == 10 then day_at text else None

-- the seconds of the day of `HH:MM:SS` from place 11 on, behind a `T` or a blank; 84 is `T`, 58 is `:`
unfoldable pub seconds_at : List ℕ → Option ℕ
seconds_at text =
    if (has_at text 10 84 || has_at text 10 32) && has_at text 13 58 && has_at text 16 58 then (do
      hours ← at_most 23 (number_at text 11 2)
      minutes ← at_most 59 (number_at text 14 2)
      seconds ← at_most 59 (number_at text 17 2)
      Some (hours * 3600 + minutes * 60 + seconds))
    else None

-- the microseconds of `.` and 1 to 6 digits at the front, and how many bytes they take; no `.` is 0; 46 is `.`
unfoldable pub fraction_at : List ℕ → Option (ℕ × ℕ)
fraction_at text =
    let len = prefix_len is_ascii_digit (drop 1 text) in
    if has_at text 0 46 then
    (if nat_le 1 len && nat_le len 6 then Some (digits_value 10 (take len (drop 1 text)) * 10 ^ (6 - len), 1 + len) else None)
    else Some (0, 0)

-- the minutes by which a zone is before UTC: `Z`, ` UTC`, or a sign and `HH:MM`; 43 is `+`
unfoldable pub zone_of : List ℕ → Option ℤ
zone_of text =
    if bytes_eq text (codes "Z") || bytes_eq text (codes " UTC") then Some (pos 0)
    else if length text == 6 && (has_at text 0 43 || has_at text 0 45) && has_at text 3 58 then (do
      hours ← at_most 23 (number_at text 1 2)
      minutes ← at_most 59 (number_at text 4 2)
      Some (if has_at text 0 45 then neg_ℤ (pos (hours * 60 + minutes)) else pos (hours * 60 + minutes)))
    else None

-- microseconds since 1970-01-01 00:00:00 UTC
abbrev pub micros_of : ℤ → ℕ → ℕ → ℤ → ℤ
micros_of day seconds micros zone =
    day *ℤ pos 86_400_000_000 +ℤ pos (seconds * 1_000_000 + micros) -ℤ zone *ℤ pos 60_000_000

-- an instant that a TIMESTAMP holds
abbrev pub in_range : ℤ → Option ℤ
in_range instant = if int_le FIRST_INSTANT instant && int_le instant LAST_INSTANT then Some instant else None

-- A timestamp text is a date, `T` or a blank, `HH:MM:SS`, a fraction or none, and a zone.
unfoldable pub instant_of : List ℕ → Option ℤ
instant_of text = do
  day ← day_at text
  seconds ← seconds_at text
  rest ← if nat_le 19 (length text) then Some (drop 19 text) else None
  fraction ← fraction_at rest
  zone ← zone_of (drop fraction.1 rest)
  in_range (micros_of day seconds fraction.0 zone)

abbrev pub date_cell : List ℕ → Option Cell
date_cell text = option_map (λ day. cell.Date day) (date_of text)

abbrev pub timestamp_cell : List ℕ → Option Cell
timestamp_cell text = option_map (λ instant. cell.Timestamp instant) (instant_of text)

-- the value of a literal in a column of this kind; None where it is of another type
unfoldable pub cell_of : Kind → Literal → Option Cell
cell_of kind.Int64 (literal.Integer n) = Some (cell.Int n)
cell_of kind.Bool (literal.Bool b) = Some (cell.Bool b)
cell_of kind.Str (literal.Str s) = Some (cell.Str s)
cell_of kind.Date (literal.Str s) = date_cell s
cell_of kind.Date (literal.Date s) = date_cell s
cell_of kind.Timestamp (literal.Str s) = timestamp_cell s
cell_of kind.Timestamp (literal.Timestamp s) = timestamp_cell s
cell_of _ _ = None

unfoldable pub cells_of : Kind → List Literal → Option (List Cell)
cells_of kind [] = Some []
cells_of kind (first ∷ more) = do
  value ← cell_of kind first
  values ← cells_of kind more
  Some (value ∷ values)
