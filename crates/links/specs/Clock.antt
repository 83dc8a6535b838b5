-- What a clock in memory reads.
use Rattle.std.specs.Prelude.{ℕ, zero, suc, ◌-◌, ◌^◌, ℤ, pos, nat_lt, if◌then◌else◌, List, [], ◌∷◌, ◌++◌, length, min, slice_get, unwrap_or, Option, None, Some}
use Rattle.std.specs.Int.{int_min, int_max}
use Rattle.links.specs.declared.clocks.TheConstants.{LATEST_READING}

-- a time within the range of readings
abbrev pub clamped : ℤ → ℤ
clamped time = int_max (pos 0) (int_min time LATEST_READING)

-- the reading with this number, from 0: the last time repeats, and where there is none it is 0
abbrev pub reading_at : List ℤ → ℕ → ℤ
reading_at times n = clamped (unwrap_or (slice_get times (min n (length times - 1))) (pos 0))

-- the first readings
unfoldable pub first_readings : List ℤ → (count : ℕ) → List ℤ
first_readings times zero = []
first_readings times (suc count) = first_readings times count ++ reading_at times count ∷ []

-- what a clock in memory shows: its times, and how many readings it made
pub record ClockState : Type 0 where
  pub times : List ℤ
  pub count : ℕ

-- The readings so far are told up to the last value of their count.
abbrev pub told_by : ClockState → Option (List ℤ)
told_by clock = if nat_lt clock.count (2 ^ 64 - 1) then Some (first_readings clock.times clock.count) else None
