-- The columns of the table that the restrictions are about.
use Rattle.std.specs.Prelude.{ℕ, List, [], ◌∷◌, codes}
use Rattle.column_types.specs.declared.column.Column.{Column}
use Rattle.column_types.specs.declared.column.Kind.{Kind}
use Rattle.column_types.specs.declared.column.Kind.TheVariants as kind
use Rattle.column_types.specs.declared.column.Mode.TheVariants as mode

-- a column that may hold NULL
abbrev pub nullable : List ℕ → Kind → Column
nullable name kind = record { name = name; kind = kind; mode = mode.Nullable }

abbrev pub the_columns : List Column
the_columns =
    nullable (codes "id") kind.Int64 ∷ nullable (codes "tag") kind.Str ∷ nullable (codes "day") kind.Date
    ∷ nullable (codes "at") kind.Timestamp ∷ nullable (codes "ok") kind.Bool ∷ nullable (codes "raw") kind.Bytes
    ∷ nullable (codes "date") kind.Str ∷ []
