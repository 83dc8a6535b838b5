-- What the five lines of the drill say of the history of its table.
use Rattle.std.specs.Prelude.{◌≡◌, ◌⊎◌, ℕ, ◌≤◌, ℤ, pos, ◌+ℤ◌, Bool, true, false, List, [], ◌∷◌, ◌++◌, length, count_by, fold, Some, codes, decimal}
use Rattle.std.specs.Fmt.{signed_decimal}
use Rattle.column_types.specs.declared.cell.Cell.{Cell}
use Rattle.column_types.specs.declared.cell.Cell.TheVariants as cell
use Rattle.column_types.specs.declared.row.Row.{Row}
use Rattle.table_model.specs.declared.limits.TheConstants.{MAX_ENTRIES, MAX_SESSIONS}
use Rattle.table_model.specs.declared.entries.Change.{Change}
use Rattle.table_model.specs.declared.entries.Change.TheVariants as change
use Rattle.table_model.specs.History.{History, sessions_of}
use Rattle.table_model.specs.Legal.{IsLegal}
use Rattle.table_model.specs.Sessions.{Opened, session_of}
use Rattle.table_model.specs.Table.{Table}
use Rattle.table_model.specs.Visible.{visible_of}
use Rattle.drill.specs.Drains.{session_rows}
use Rattle.drill.specs.Table.{columns}

abbrev pub is_append : Change → Bool
is_append (change.Append stream offset rows bytes) = true
is_append _ = false

-- the accepted appends
abbrev pub appends_of : History → ℕ
appends_of history = count_by (λ entry. is_append entry.change) history

-- an id is a row's first cell
abbrev pub id_in : List Cell → ℤ
id_in (cell.Int id ∷ more) = id
id_in _ = pos 0

-- the sum of the ids
abbrev pub sum_of : List Row → ℤ
sum_of rows = fold (λ sum row. sum +ℤ id_in row) (pos 0) rows

abbrev pub line : (word number : List ℕ) → List ℕ
line word number = word ++ number ++ codes "\n"

-- the five lines
abbrev pub lines_of : (appends repeats visible matching : ℕ) (sum : ℤ) → List ℕ
lines_of appends repeats visible matching sum =
    line (codes "appends ") (decimal appends) ++ line (codes "repeats ") (decimal repeats) ++ line (codes "visible ") (decimal visible)
    ++ line (codes "matching ") (decimal matching) ++ line (codes "sum ") (signed_decimal sum)

-- there is no room for a session more
abbrev pub IsFull : History → Type 0
IsFull history = (MAX_SESSIONS ≤ sessions_of history) ⊎ (MAX_ENTRIES ≤ length history)

-- These are the rows of the session of this number. Where there was no room for a session the number is 0, and there is
-- no row.
abbrev pub Draws : History → (session : ℕ) → List Row → Type 0
Draws history session rows =
    ((session ≡ 0) × IsFull history × (rows ≡ []))
    ⊎ ((opened : Opened) × (session_of history session ≡ Some opened) × (rows ≡ session_rows opened history))

-- The table's history is legal, and the lines tell of it: how many appends it has, how many rows are visible, how many of
-- these the session has, and the sum of their ids. `repeats` is what was counted.
pub record Sums (table : Table) (session repeats : ℕ) (text : List ℕ) : Type 0 where
  pub columns_are : table.columns ≡ columns
  pub legal : IsLegal table.columns table.entries
  pub rows : List Row
  pub draws : Draws table.entries session rows
  pub text_is : text ≡ lines_of (appends_of table.entries) repeats (length (visible_of table.entries)) (length rows) (sum_of rows)
