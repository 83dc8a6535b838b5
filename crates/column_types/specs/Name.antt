-- The names of columns: 1 to 128 ASCII letters, digits and `_` that do not begin with a digit. Names are compared
-- without ASCII case.
use Rattle.std.specs.Prelude.{ℕ, Bool, false, ◌&&◌, ◌||◌, ◌==◌, nat_le, List, [], ◌∷◌, length}
use Rattle.std.specs.Char.{is_ascii_alphabetic, is_ascii_alphanumeric}
use Rattle.std.specs.List.{list_all}
use Rattle.std.specs.Str.{str_eq_ignore_ascii_case}
use Rattle.column_types.specs.declared.column.TheConstants.{MAX_NAME_BYTES}

-- 95 is `_`
abbrev pub begins_name : ℕ → Bool
begins_name byte = is_ascii_alphabetic byte || byte == 95

abbrev pub continues_name : ℕ → Bool
continues_name byte = is_ascii_alphanumeric byte || byte == 95

-- a name of any length
abbrev pub is_name : List ℕ → Bool
is_name [] = false
is_name (first ∷ more) = begins_name first && list_all continues_name more

abbrev pub is_column_name : List ℕ → Bool
is_column_name name = is_name name && nat_le (length name) MAX_NAME_BYTES

abbrev pub is_same_name : List ℕ → List ℕ → Bool
is_same_name a b = str_eq_ignore_ascii_case a b
