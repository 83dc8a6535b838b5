-- What is so of all that a table keeps: it fits the table's columns, and moments never fall.
use Rattle.std.specs.Prelude.{ℤ, ◌≤◌, ◌≤ℤ◌, List, [], ◌∷◌, sum_by, All}
use Rattle.column_types.specs.declared.column.Column.{Column}
use Rattle.column_types.specs.Row.{Fits}
use Rattle.column_types.specs.Sizes.{bytes_of_row}
use Rattle.column_types.specs.Typed.{IsTyped}
use Rattle.column_types.specs.Fields.{IsMadeFor}
use Rattle.table_model.specs.declared.entries.Change.{Change}
use Rattle.table_model.specs.declared.entries.Change.TheVariants as change
use Rattle.table_model.specs.History.{History}

-- The rows of an append fit the columns, and the bytes of their texts are at most its `bytes`. The restriction of a session
-- is typed, and its columns are chosen among the table's.
abbrev pub ChangeFits : List Column → Change → Type 0
ChangeFits columns (change.Append on offset rows bytes) = All (Fits columns) rows × (sum_by bytes_of_row rows ≤ bytes)
ChangeFits columns (change.Session number at pred fields roots) = IsTyped columns pred × IsMadeFor columns fields
ChangeFits columns _ = Unit {0}

abbrev pub EachFits : List Column → History → Type 0
EachFits columns history = All (λ entry. ChangeFits columns entry.change) history

-- Moments never fall, from this one on.
abbrev pub RisesFrom : ℤ → History → Type 0
RisesFrom moment [] = Unit {0}
RisesFrom moment (entry ∷ history) = (moment ≤ℤ entry.moment) × RisesFrom entry.moment history
