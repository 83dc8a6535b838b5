-- The columns of a SPEC: `name:KIND` or `name:KIND:MODE`, with commas between them.
use Rattle.std.specs.Prelude.{ℕ, ◌==◌, if◌then◌else◌, List, [], ◌∷◌, map, Option, Some, None, option_and_then, codes}
use Rattle.std.specs.List.{slice_split}
use Rattle.std.specs.Str.{bytes_eq}
use Rattle.column_types.specs.declared.column.Column.{Column}
use Rattle.column_types.specs.declared.column.Kind.{Kind}
use Rattle.column_types.specs.declared.column.Kind.TheVariants as kind
use Rattle.column_types.specs.declared.column.Mode.{Mode}
use Rattle.column_types.specs.declared.column.Mode.TheVariants as mode

abbrev pub kind_of : List ℕ → Option Kind
kind_of text =
    if bytes_eq text (codes "INT64") then Some kind.Int64
    else if bytes_eq text (codes "BOOL") then Some kind.Bool
    else if bytes_eq text (codes "STRING") then Some kind.Str
    else if bytes_eq text (codes "BYTES") then Some kind.Bytes
    else if bytes_eq text (codes "DATE") then Some kind.Date
    else if bytes_eq text (codes "TIMESTAMP") then Some kind.Timestamp
    else None

abbrev pub mode_of : List ℕ → Option Mode
mode_of text =
    if bytes_eq text (codes "NULLABLE") then Some mode.Nullable
    else if bytes_eq text (codes "REQUIRED") then Some mode.Required
    else None

abbrev pub named : List ℕ → Option Kind → Option Mode → Option Column
named name (Some kind) (Some mode) = Some (record { name = name; kind = kind; mode = mode })
named name (Some kind) None = None
named name None mode = None

-- a column without a mode is NULLABLE
abbrev pub column_from : List (List ℕ) → Option Column
column_from (name ∷ kind ∷ []) = named name (kind_of kind) (Some mode.Nullable)
column_from (name ∷ kind ∷ mode ∷ []) = named name (kind_of kind) (mode_of mode)
column_from _ = None

abbrev pub column_of : List ℕ → Option Column
column_of text = column_from (slice_split (λ b. b == 58) text)

-- each of the list, where none is missing
abbrev pub all_of : {A : Type 0} → List (Option A) → Option (List A)
all_of [] = Some []
all_of (first ∷ others) = option_and_then (λ x. option_and_then (λ xs. Some (x ∷ xs)) (all_of others)) first

abbrev pub columns_of : List ℕ → Option (List Column)
columns_of text = all_of (map column_of (slice_split (λ b. b == 44) text))
