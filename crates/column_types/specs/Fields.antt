-- The columns that a reader chose, and what they leave of a list that has one item for each column.
use Rattle.std.specs.Prelude.{◌≡◌, ℕ, ◌<◌, Bool, false, List, [], ◌∷◌, length, filter, position, Option, Some, is_none, slice_get, All}
use Rattle.std.specs.List.{list_any, filter_map, range_with_len}
use Rattle.std.specs.List.Sorted.{IsStrictlyIncreasing}
use Rattle.std.specs.Option.{option_map_or}
use Rattle.column_types.specs.declared.column.Column.{Column}
use Rattle.column_types.specs.declared.fields.FieldsFault.{FieldsFault}
use Rattle.column_types.specs.declared.fields.FieldsFault.TheVariants as fault
use Rattle.column_types.specs.Name.{is_same_name}
use Rattle.column_types.specs.Schema.{column_number}

-- Fields are made for a schema where they are one or more numbers of its columns, each above the one before.
pub record IsMadeFor (columns : List Column) (fields : List ℕ) : Type 0 where
  pub some : 0 < length fields
  pub within : All (λ number. number < length columns) fields
  pub rising : IsStrictlyIncreasing fields

-- the columns' numbers
abbrev pub all_fields : List Column → List ℕ
all_fields columns = range_with_len 0 (length columns)

-- the column of this number has one of the names, without ASCII case
abbrev pub is_named : List Column → List (List ℕ) → ℕ → Bool
is_named columns names number =
    option_map_or (λ column. list_any (is_same_name column.name) names) (slice_get columns number) false

-- the columns named, in the schema's order, each once; no names mean all
abbrev pub fields_named : List Column → List (List ℕ) → List ℕ
fields_named columns [] = all_fields columns
fields_named columns (name ∷ more) = filter (is_named columns (name ∷ more)) (all_fields columns)

-- the first name that no column has
abbrev pub unknown_name : List Column → List (List ℕ) → Option ℕ
unknown_name columns names = position (λ name. is_none (column_number columns name)) names

-- the items at these numbers, of columns or of cells
abbrev pub projected : {A : Type 0} → List ℕ → List A → List A
projected fields items = filter_map (slice_get items) fields

-- Why names choose no columns.
abbrev pub NamesUnknown : List Column → List (List ℕ) → FieldsFault → Type 0
NamesUnknown columns names fault.Memory = Unit {0}
NamesUnknown columns names (fault.UnknownColumn at) = unknown_name columns names ≡ Some at
