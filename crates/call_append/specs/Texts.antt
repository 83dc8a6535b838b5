-- The texts of refusals.
use Rattle.std.specs.Prelude.{ℕ, List, [], ◌++◌, take, Option, Some, None, slice_get, unwrap_or, option_and_then, codes, decimal}
use Rattle.std.specs.Str.{chars, encode_utf8_all}
use Rattle.column_types.specs.declared.column.Column.{Column}
use Rattle.table_model.specs.declared.reasons.Why.{Why}
use Rattle.table_model.specs.declared.reasons.Why.TheVariants as why
use Rattle.table_model.specs.Reasons.{phrase_of}
use Rattle.row_decode.specs.declared.faults.RowWhy.{RowWhy}
use Rattle.row_decode.specs.declared.faults.RowWhy.TheVariants as row
use Rattle.call_append.specs.declared.texts.TheConstants.{SHOWN_CHARACTERS}

-- a name is shown by its first characters
abbrev pub shown : List ℕ → List ℕ
shown name = encode_utf8_all (take SHOWN_CHARACTERS (chars name))

-- what a cause carries: the name of a field or a column, or a place in a restriction
abbrev pub carried_in : Why → List ℕ
carried_in (why.ExtraField name) = shown name
carried_in (why.TypeMismatch name) = shown name
carried_in (why.MissingRequired name) = shown name
carried_in (why.UnknownColumn name) = shown name
carried_in (why.IllTyped name) = shown name
carried_in (why.Syntax at) = decimal at
carried_in _ = []

abbrev pub cause_text : Why → List ℕ
cause_text cause = phrase_of cause ++ carried_in cause

-- the name of the column of this number
abbrev pub column_name : List Column → ℕ → List ℕ
column_name columns at = unwrap_or (option_and_then (λ column. Some (shown column.name)) (slice_get columns at)) []

-- why a row is refused; want of memory is no cause of the definition
abbrev pub row_text : List Column → RowWhy → List ℕ
row_text columns row.Memory = []
row_text columns row.Malformed = codes "malformed row"
row_text columns (row.BadText at) = codes "bad text in column: " ++ column_name columns at
row_text columns (row.OutOfRange at) = codes "value out of range in column: " ++ column_name columns at
row_text columns (row.Missing at) = codes "no value in required column: " ++ column_name columns at
