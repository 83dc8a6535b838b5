-- A book stands for a history: it says of each read session what the history says.
use Rattle.std.specs.Prelude.{◌≡◌, ℕ, ◌≤◌, length, All}
use Rattle.table_model.specs.declared.entries.Change.{Change}
use Rattle.table_model.specs.declared.entries.Change.TheVariants as change
use Rattle.table_model.specs.History.{History, sessions_of}
use Rattle.table_model.specs.Visible.{visible_of}
use Rattle.table_model.specs.Sessions.{session_of}
use Rattle.read_sessions.specs.Book.{Book, find}

-- No session is of more rows than are visible.
pub record Stands (book : Book) (history : History) : Type 0 where
  pub found : (number : ℕ) → find book number ≡ session_of history number
  pub count : length book ≡ sessions_of history
  pub within : All (λ session. session.nodes.at ≤ length (visible_of history)) book

-- a change neither begins a session nor splits a node
abbrev pub IsOther : Change → Type 0
IsOther (change.Session number at pred fields roots) = ⊥
IsOther (change.Split session node left right) = ⊥
IsOther _ = Unit {0}
