-- A number within a name: its decimal, without a sign or a leading zero, below 2^32.
use Rattle.std.specs.Prelude.{ℕ, ◌&&◌, ◌^◌, nat_lt, List, Option, Some, None, if◌then◌else◌, decimal}
use Rattle.std.specs.Str.{bytes_eq}
use Rattle.std.specs.Str.Parse.{digits_value}

-- the value of the digits, where the text is the decimal of it
abbrev pub number_by : List ℕ → (value : ℕ) → Option ℕ
number_by text value = if bytes_eq (decimal value) text && nat_lt value (2 ^ 32) then Some value else None

unfoldable pub number_of : List ℕ → Option ℕ
number_of text = number_by text (digits_value 10 text)
