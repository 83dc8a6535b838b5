-- The parts of a resource name.
use Rattle.std.specs.Prelude.{ℕ, Bool, ◌&&◌, ◌||◌, ◌==◌, nat_le, List, length}
use Rattle.std.specs.List.{list_all, slice_split}
use Rattle.std.specs.Char.{is_ascii_alphanumeric}
use Rattle.std.specs.Str.{bytes_eq}
use Rattle.resource_names.specs.declared.parts.TheConstants.{MAX_PART_BYTES}

-- an ASCII letter, a digit, `_`, `-`, `.` or `:`
abbrev pub is_part_byte : ℕ → Bool
is_part_byte b = is_ascii_alphanumeric b || b == 95 || b == 45 || b == 46 || b == 58

abbrev pub has_part_len : List ℕ → Bool
has_part_len text = nat_le 1 (length text) && nat_le (length text) MAX_PART_BYTES

-- one part of a name
abbrev pub is_part : List ℕ → Bool
is_part text = has_part_len text && list_all is_part_byte text

-- a word and the part that it names
abbrev pub is_named : List ℕ → List ℕ → List ℕ → Bool
is_named word text part = bytes_eq text word && is_part part

-- the words and parts stand between slashes
abbrev pub parts_of : List ℕ → List (List ℕ)
parts_of text = slice_split (λ b. b == 47) text
