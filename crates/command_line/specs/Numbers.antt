-- Numbers and addresses, as texts.
use Rattle.std.specs.Prelude.{ℕ, ◌==◌, Bool, false, not, ◌&&◌, ◌||◌, nat_le, nat_lt, if◌then◌else◌, List, [], ◌∷◌, length, Option, Some, None, is_some}
use Rattle.std.specs.List.{list_all, slice_split, before_first, after_first, position_or_len}
use Rattle.std.specs.Char.{is_ascii_digit}
use Rattle.std.specs.Str.Parse.{digits_value}

-- there is a first byte, and if others follow it is no `0` (48)
abbrev pub starts_plainly : List ℕ → Bool
starts_plainly [] = false
starts_plainly (first ∷ others) = length others == 0 || not (first == 48)

-- decimal digits without a leading zero
abbrev pub is_decimal : List ℕ → Bool
is_decimal text = starts_plainly text && list_all is_ascii_digit text

-- the number that a text is, from `least` to `most`
abbrev pub number_of : ℕ → ℕ → List ℕ → Option ℕ
number_of least most text =
    if is_decimal text && (nat_le least (digits_value 10 text) && nat_le (digits_value 10 text) most) then Some (digits_value 10 text) else None

abbrev pub is_number : ℕ → ℕ → List ℕ → Bool
is_number least most text = is_some (number_of least most text)

-- four numbers of a byte
abbrev pub are_octets : List (List ℕ) → Bool
are_octets (a ∷ b ∷ c ∷ d ∷ []) = is_number 0 255 a && is_number 0 255 b && is_number 0 255 c && is_number 0 255 d
are_octets _ = false

abbrev pub is_colon : ℕ → Bool
is_colon b = b == 58

-- `a.b.c.d:port`: before the first colon four numbers with dots (46) between them, and behind it a port
abbrev pub is_address : List ℕ → Bool
is_address text =
    nat_lt (position_or_len is_colon text) (length text)
    && (are_octets (slice_split (λ b. b == 46) (before_first is_colon text)) && is_number 0 65535 (after_first is_colon text))
