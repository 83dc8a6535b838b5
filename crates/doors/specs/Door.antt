-- What each call of a door does to the links left and to those that are out.
use Rattle.std.specs.Prelude.{◌≡◌, ℕ, ◌+◌, Bool, true, false, List, [], ◌∷◌, Option, None, Some, Result, Ok, Err}
use Rattle.outside.specs.Faults.{Rose}
use Rattle.links.specs.Told.{Tells}
use Rattle.links.specs.Link.{Moved}
use Rattle.doors.specs.declared.door.Accepted.{Accepted}
use Rattle.doors.specs.declared.door.Accepted.TheVariants as accepted

-- this link and then those, where they are told
abbrev pub led_by : {L : Type 0} → L → Option (List L) → Option (List L)
led_by link None = None
led_by link (Some links) = Some (link ∷ links)

-- The link given is the first of those left, is open and has an empty log; it comes from no door that is shut.
-- The door is closed only where no link is left. No other answer changes the links left.
abbrev pub Gives : {L : Type 0} → (closed : L → Bool) → (log : L → Option (List Moved)) → Accepted L → (left0 left : Option (List L)) → (shut : Bool) → Type 0
Gives closed log (accepted.Conn link) left0 left shut = (left0 ≡ led_by link left) × (closed link ≡ false) × Tells (log link) [] × (shut ≡ false)
Gives closed log accepted.Closed left0 left shut = (left ≡ left0) × Tells left0 []
Gives closed log accepted.Failed left0 left shut = left ≡ left0

-- how many links are out after the answer
abbrev pub out_after : {L : Type 0} → Accepted L → ℕ → ℕ
out_after (accepted.Conn link) out = out + 1
out_after accepted.Closed out = out
out_after accepted.Failed out = out

-- whether a door has answered that it is closed
abbrev pub shut_after : {L : Type 0} → Accepted L → Bool → Bool
shut_after (accepted.Conn link) shut = shut
shut_after accepted.Closed shut = true
shut_after accepted.Failed shut = shut

-- only a fault changes the count, and it makes it rise
abbrev pub NextCause : {L : Type 0} → ℕ → ℕ → Accepted L → Type 0
NextCause before now (accepted.Conn link) = now ≡ before
NextCause before now accepted.Closed = now ≡ before
NextCause before now accepted.Failed = Rose before now

-- only a fault changes the count, and it makes it rise
abbrev pub ListenCause : {U E : Type 0} → ℕ → ℕ → Result U E → Type 0
ListenCause before now (Ok u) = now ≡ before
ListenCause before now (Err e) = Rose before now
