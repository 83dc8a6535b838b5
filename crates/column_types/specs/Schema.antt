-- A schema: 1 to 256 columns with names, which differ without ASCII case; and why columns are none.
use Rattle.std.specs.Prelude.{◌≡◌, ℕ, ◌<◌, ◌≤◌, Bool, not, List, [], length, take, position, Option, Some, None, option_and_then, slice_get, IsTrue}
use Rattle.std.specs.List.{list_all}
use Rattle.column_types.specs.declared.column.Column.{Column}
use Rattle.column_types.specs.declared.schema.SchemaFault.{SchemaFault}
use Rattle.column_types.specs.declared.schema.SchemaFault.TheVariants as fault
use Rattle.column_types.specs.declared.schema.TheConstants.{MAX_COLUMNS}
use Rattle.column_types.specs.Name.{is_column_name, is_same_name}

-- the number of the first column that has this name, without ASCII case
abbrev pub column_number : List Column → List ℕ → Option ℕ
column_number columns name = position (λ column. is_same_name column.name name) columns

-- the first column before this one that has its name
abbrev pub repeated_at : List Column → ℕ → Option ℕ
repeated_at columns at = option_and_then (λ column. column_number (take at columns) column.name) (slice_get columns at)

abbrev pub is_well_named : Column → Bool
is_well_named column = is_column_name column.name

-- None of the columns before this place repeats an earlier one's name.
abbrev pub HasNoRepeat : List Column → ℕ → Type 0
HasNoRepeat columns upto = (at : ℕ) → at < upto → repeated_at columns at ≡ None

pub record IsSchema (columns : List Column) : Type 0 where
  pub some : 0 < length columns
  pub most : length columns ≤ MAX_COLUMNS
  pub named : IsTrue (list_all is_well_named columns)
  pub distinct : HasNoRepeat columns (length columns)

-- The column at `second` is the first that repeats a name, and the one at `first` the first that has it.
pub record IsFirstRepeat (columns : List Column) (first second : ℕ) : Type 0 where
  pub repeats : repeated_at columns second ≡ Some first
  pub least : HasNoRepeat columns second

-- Why columns are no schema, in the order of the tests. No test asks for memory.
abbrev pub Refuses : List Column → SchemaFault → Type 0
Refuses columns fault.Memory = ⊥
Refuses columns fault.NoColumns = columns ≡ []
Refuses columns (fault.TooMany count) = (count ≡ length columns) × (MAX_COLUMNS < count)
Refuses columns (fault.BadColumn at) =
    (0 < length columns) × (length columns ≤ MAX_COLUMNS) × (position (λ column. not (is_well_named column)) columns ≡ Some at)
Refuses columns (fault.Repeated first second) =
    (0 < length columns) × (length columns ≤ MAX_COLUMNS) × IsTrue (list_all is_well_named columns) × IsFirstRepeat columns first second
