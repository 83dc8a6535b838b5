-- How many rows were visible at a moment, by snapshots of their number.
use Rattle.std.specs.Prelude.{◌≡◌, ℕ, ℤ, ◌≤ℤ◌, int_le, pos, List, [], ◌∷◌, ◌++◌, All, if◌then◌else◌}
use Rattle.std.specs.List.{fold}
use Rattle.table_model.specs.declared.entries.Entry.{Entry}
use Rattle.table_model.specs.History.{History, moment_of}
use Rattle.table_model.specs.Fits.{RisesFrom}
use Rattle.table_model.specs.Sessions.{visible_by}
use Rattle.read_sessions.specs.declared.snapshots.Snapshot.{Snapshot}

pub record Kept : Type 0 where
  pub list : List Snapshot
  pub room : ℕ

-- what the last snapshot says that isn't later than the moment, and 0 where each is later
abbrev pub visible_at : List Snapshot → (moment : ℤ) → ℕ
visible_at snapshots moment = fold (λ before s. if int_le s.moment moment then s.visible else before) 0 snapshots

-- no snapshot is later than the moment
abbrev pub IsPast : (moment : ℤ) → List Snapshot → Type 0
IsPast moment snapshots = All (λ s. s.moment ≤ℤ moment) snapshots

-- each snapshot is no later than those behind it
abbrev pub Rise : List Snapshot → Type 0
Rise [] = Unit {0}
Rise (snapshot ∷ more) = All (λ s. snapshot.moment ≤ℤ s.moment) more × Rise more

-- an entry is no earlier than those of the history, whose moments rise
abbrev pub IsNext : History → Entry → Type 0
IsNext history entry = RisesFrom (pos 0) (history ++ entry ∷ [])

-- Snapshots tell of a history how many rows were visible at each moment, and none is later than its last entry.
pub record Tells (snapshots : List Snapshot) (history : History) : Type 0 where
  pub told : (moment : ℤ) → visible_at snapshots moment ≡ visible_by history moment
  pub past : IsPast (moment_of history) snapshots
