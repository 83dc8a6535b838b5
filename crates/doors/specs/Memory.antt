-- What a door in memory shows, and what its calls answer.
use Rattle.std.specs.Prelude.{ℕ, ◌==◌, Bool, true, false, not, ◌&&◌, List, [], ◌∷◌, Option, None, Some, if◌then◌else◌}
use Rattle.outside.specs.Faults.{risen}
use Rattle.links.specs.Memory.{LinkState}
use Rattle.links.specs.Link.{Moved}
use Rattle.doors.specs.declared.door.Accepted.{Accepted}
use Rattle.doors.specs.declared.door.Accepted.TheVariants as accepted

-- nothing moved
abbrev pub is_empty_log : List Moved → Bool
is_empty_log [] = true
is_empty_log (moved ∷ log) = false

-- a link that isn't closed, over which nothing moved yet
abbrev pub is_new : LinkState → Bool
is_new link = not link.closed && is_empty_log link.log

-- the links left, those handed back, how many are out, whether it answered that it is closed, the number of calls of
-- listen and next so far, the number of the call that fails, and the count of faults
pub record DoorState : Type 0 where
  pub left : List LinkState
  pub handed : List LinkState
  pub out : ℕ
  pub shut : Bool
  pub calls : ℕ
  pub fail_at : Option ℕ
  pub count : ℕ

-- whether the call with this number is the one that fails
abbrev pub is_failing : Option ℕ → ℕ → Bool
is_failing None number = false
is_failing (Some n) number = n == number

-- whether the next call fails
abbrev pub fails_next : DoorState → Bool
fails_next door = is_failing door.fail_at (risen door.calls)

-- the first link, where one is left
abbrev pub first_of : List LinkState → Accepted LinkState
first_of [] = accepted.Closed
first_of (link ∷ links) = accepted.Conn link

-- what the next call of next answers
abbrev pub next_of : DoorState → Accepted LinkState
next_of door = if fails_next door then accepted.Failed else first_of door.left
