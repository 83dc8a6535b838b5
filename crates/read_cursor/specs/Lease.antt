-- What a lease lets a reader see: some positions of a spine, and of these the rows that meet a condition.
use Rattle.std.specs.Prelude.{ℕ, ◌-◌, ◌≤◌, Bool, true, false, List, length, take, drop, map, filter}
use Rattle.std.specs.List.{AllByRecursion}
use Rattle.column_types.specs.declared.cell.Cell.{Cell}
use Rattle.column_types.specs.declared.column.Column.{Column}
use Rattle.column_types.specs.declared.predicate.Pred.{Pred}
use Rattle.column_types.specs.declared.truths.Truth.{Truth}
use Rattle.column_types.specs.declared.truths.Truth.TheVariants as truth
use Rattle.column_types.specs.Fields.{IsMadeFor, projected}
use Rattle.column_types.specs.Row.{Fits}
use Rattle.column_types.specs.Truth.{truth_of}
use Rattle.column_types.specs.Typed.{IsTyped}
use Rattle.row_groups.specs.Places.{joined}

pub record Leased : Type 0 where
  pub groups : List (List (List Cell))
  pub lo : ℕ
  pub hi : ℕ
  pub roots : ℕ
  pub pred : Pred
  pub fields : List ℕ

-- the items at positions from `lo` up to `hi`
abbrev pub between : {A : Type 0} → ℕ → ℕ → List A → List A
between lo hi items = take (hi - lo) (drop lo items)

abbrev pub is_yes : Truth → Bool
is_yes truth.Yes = true
is_yes truth.No = false
is_yes truth.Unknown = false

-- a row is kept where the condition is yes, so not where it is unknown
abbrev pub keeps : Pred → List Cell → Bool
keeps pred row = is_yes (truth_of pred row)

-- the rows of the interval that are kept, in order
abbrev pub matching : Leased → List (List Cell)
matching lease = filter (keeps lease.pred) (between lease.lo lease.hi (joined lease.groups))

-- the rows of an interval that a reader gets, each with the chosen columns alone
abbrev pub shown : Pred → List ℕ → ℕ → ℕ → List (List Cell) → List (List Cell)
shown pred fields lo hi rows = map (projected fields) (filter (keeps pred) (between lo hi rows))

-- There is a schema that each row of the spine fits, for which the condition is typed and the fields are made.
pub record IsReadable (rows : List (List Cell)) (pred : Pred) (fields : List ℕ) : Type 0 where
  pub columns : List Column
  pub typed : IsTyped columns pred
  pub made : IsMadeFor columns fields
  pub fit : AllByRecursion (Fits columns) rows

-- What a lease's type keeps.
pub record IsLease (lease : Leased) : Type 0 where
  pub rises : lease.lo ≤ lease.hi
  pub within : lease.hi ≤ length (joined lease.groups)
  pub readable : IsReadable (joined lease.groups) lease.pred lease.fields
