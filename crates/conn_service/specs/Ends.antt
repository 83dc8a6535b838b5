-- How a connection ends, each ending with its cause.
use Rattle.std.specs.Prelude.{◌≡◌, ◌⊎◌, ℕ, ◌<◌, Bool, true, List, [], ◌∷◌, length, map, Option, Some, None}
use Rattle.outside.specs.Faults.{Rose}
use Rattle.links.specs.Link.{IsSpent}
use Rattle.h2_frames.specs.Reading.{need_of}
use Rattle.h2_frames.specs.Spelling.{spelling}
use Rattle.h2_frames.specs.declared.frame.Frame.{Frame}
use Rattle.h2_record.specs.Record.{Record, In, Out, Given, Whole, Broken}
use Rattle.h2_record.specs.Faults.{first_fault_of}
use Rattle.h2_record.specs.Control.{control_of, written_control_of}
use Rattle.h2_record.specs.Due.{IsDue}
use Rattle.h2_record.specs.Written.{IsFront}
use Rattle.conn_record.specs.Timeline.{Framing}
use Rattle.conn_record.specs.Places.{is_between}
use Rattle.conn_requests.specs.Decided.{Answered, Played, item_of}
use Rattle.conn_service.specs.declared.ending.Ending.{Ending}
use Rattle.conn_service.specs.declared.ending.Ending.TheVariants as ending
use Rattle.conn_service.specs.Quiet.{IsSilent}

-- The client's bytes came to their end: a read met it, and no byte is left. No rule was broken, and all is answered and
-- written.
pub record IsOver (s : Framing) (p : Played) (ended : Bool) (left : Option (List ℕ)) : Type 0 where
  pub met : ended ≡ true
  pub spent : IsSpent left
  pub sound : first_fault_of p.marked ≡ None
  pub silent : IsSilent s p

-- Each ending with its cause. Those of a fault of the link and of want of memory aren't in the log.
abbrev pub Ends : Ending → Framing → Played → (ended : Bool) → (left : Option (List ℕ)) → Type 0
Ends ending.Done s p ended left = (is_between s ≡ true) × IsOver s p ended left
Ends (ending.Cut have need) s p ended left = (0 < have) × (have ≡ length s.inflow.bytes) × (need ≡ need_of s.inflow) × IsOver s p ended left
Ends (ending.Goaway code rule) s p ended left =
    (first_fault_of p.marked ≡ Some (record { code = code; rule = rule })) × (written_control_of p.marked ≡ control_of p.marked) × (s.outflow ≡ [])
Ends ending.LinkFault s p ended left = Unit {0}
Ends ending.Memory s p ended left = Unit {0}

-- A fault of the link is the ending exactly where its count of faults rose.
abbrev pub EndCause : (before now : ℕ) → Ending → Type 0
EndCause before now ending.LinkFault = Rose before now
EndCause before now _ = now ≡ before

-- All that was decided is answered. Where memory was wanting, the first items are.
abbrev pub IsAsked : Ending → Played → List Answered → Type 0
IsAsked ending.Memory p answers = IsFront (map item_of answers) p.decided
IsAsked _ p answers = map item_of answers ≡ p.decided

-- No frame came behind one that broke a rule.
abbrev pub StopsAtFault : Record → Type 0
StopsAtFault [] = Unit {0}
StopsAtFault (In frame ∷ r) = first_fault_of r ≡ None
StopsAtFault (Broken fault ∷ r) = first_fault_of r ≡ None
StopsAtFault (Out frame ∷ r) = StopsAtFault r
StopsAtFault (Given stream part ∷ r) = StopsAtFault r
StopsAtFault (Whole ∷ r) = StopsAtFault r

-- What was written of a frame that isn't whole is a front of one that is due.
abbrev pub EndsInDue : Record → (outflow : List ℕ) → Type 0
EndsInDue r outflow = (outflow ≡ []) ⊎ ((frame : Frame) × IsDue r frame × IsFront outflow (spelling frame))
