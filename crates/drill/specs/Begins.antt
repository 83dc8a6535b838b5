-- How the last session of the drill begins.
use Rattle.std.specs.Prelude.{◌≡◌, ◌⊎◌, ℕ, ◌<◌, List, Option, None, Some, Result, Ok, Err, IfOk}
use Rattle.column_types.specs.declared.row.Row.{Row}
use Rattle.outside.specs.declared.wants.Memory.{Memory}
use Rattle.table_model.specs.declared.replies.Reply.{Reply}
use Rattle.table_model.specs.declared.replies.Reply.TheVariants as reply
use Rattle.table_model.specs.History.{History}
use Rattle.table_model.specs.Sessions.{Opened, session_of}
use Rattle.drill.specs.declared.drained.Drained.{Drained}
use Rattle.drill.specs.declared.drained.DrainFault.{DrainFault}
use Rattle.drill.specs.declared.drained.DrainFault.TheVariants as fault
use Rattle.drill.specs.Summary.{IsFull, Draws}

-- the session of this number is there, or there was no room for one and the number is 0
abbrev pub Begun : History → ℕ → Type 0
Begun history session = ((session ≡ 0) × IsFull history) ⊎ ((0 < session) × (opened : Opened) × (session_of history session ≡ Some opened))

-- the rows of the session were drained, or it is there and they weren't
abbrev pub Drawn : History → ℕ → Option (List Row) → Type 0
Drawn history session (Some rows) = Draws history session rows
Drawn history session None = (opened : Opened) × (session_of history session ≡ Some opened)

-- the number of the session that a reply tells
abbrev pub number_of : Reply → ℕ
number_of (reply.Session session roots expires) = session
number_of _ = 0

-- The rows of a drain that came to its end, or none of another, are given.
abbrev pub GivesRows : Result Drained DrainFault → Result (Option (List Row)) Memory → Type 0
GivesRows (Ok drained) given = given ≡ Ok (Some drained.rows)
GivesRows (Err fault.Memory) given = IfOk given (λ _. ⊥)
GivesRows (Err other) given = given ≡ Ok None
