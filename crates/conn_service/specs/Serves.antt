-- One connection, from bytes to bytes.
use Rattle.std.specs.Prelude.{◌≡◌, ℕ, ℤ, pos, ◌≤ℤ◌, Bool, List, ◌∷◌, ◌++◌, map, length, All, Option}
use Rattle.links.specs.Told.{more, GoesOn}
use Rattle.links.specs.Link.{Moved}
use Rattle.links.specs.declared.clocks.TheConstants.{LATEST_READING}
use Rattle.h2_frames.specs.declared.frame.Frame.{Frame}
use Rattle.h2_frames.specs.declared.frame.Frame.TheVariants as frames
use Rattle.h2_record.specs.Record.{Record, Out}
use Rattle.h2_record.specs.Windows.{send_window_of, connection_window_of}
use Rattle.h2_record.specs.Resets.{resets_of}
use Rattle.h2_record.specs.Control.{control_of, written_control_of}
use Rattle.h2_record.specs.Texts.{Token, written_text, written_codes, codes_on}
use Rattle.h2_record.specs.Written.{EachWasDue, IsFront}
use Rattle.open_tables.specs.Tables.{TableView}
use Rattle.conn_record.specs.Timeline.{framing_of, timeline_of, unframed}
use Rattle.conn_record.specs.Places.{HoldsFrom}
use Rattle.conn_record.specs.Sending.{IsOwn}
use Rattle.conn_record.specs.Fronts.{IsServerFrame}
use Rattle.conn_requests.specs.Decided.{Answered, Played, play}
use Rattle.conn_requests.specs.Spelled.{spelling_on}
use Rattle.conn_service.specs.declared.ending.Ending.{Ending}
use Rattle.conn_service.specs.Served.{Planning, Served}
use Rattle.conn_service.specs.Quiet.{SilentAt, ReadyAt}
use Rattle.conn_service.specs.Ends.{Ends, EndCause, IsAsked, StopsAtFault, EndsInDue}

-- DATA stand within both windows at their place.
abbrev pub IsWithinWindows : Record → Type 0
IsWithinWindows r = (newer older : Record) (stream counted : ℕ) (ended : Bool) (bytes : List ℕ) → newer ++ Out (frames.Body stream ended bytes counted) ∷ older ≡ r
    → (pos (length bytes) ≤ℤ send_window_of older stream) × (pos (length bytes) ≤ℤ connection_window_of older)

-- no other kind of frame went than a server writes
abbrev pub IsServers : Record → Type 0
IsServers r = (newer older : Record) (frame : Frame) → newer ++ Out frame ∷ older ≡ r → IsServerFrame frame

-- What was written is a front of what was to be written: on each stream of its answers' text, of the control frames, and
-- on each stream of its resets. Nothing else was.
pub record IsInOrder (r : Record) (text_of : ℕ → List Token) : Type 0 where
  pub spelled : (id : ℕ) → IsFront (written_text r id) (text_of id)
  pub control : IsFront (written_control_of r) (control_of r)
  pub resets : (id : ℕ) → IsFront (written_codes r id) (codes_on (resets_of r) id)
  pub windows : IsWithinWindows r
  pub kinds : IsServers r

abbrev pub reading_of : Answered → ℤ
reading_of x = x.now

-- a reading of the clock
abbrev pub IsInTime : Answered → Type 0
IsInTime x = (pos 0 ≤ℤ x.now) × (x.now ≤ℤ LATEST_READING)

-- What a link and a clock show at a moment: of the link what moved and the bytes left, where it tells them, whether a read
-- met the end of them, and its count of faults; of the clock its readings, where it tells them.
pub record Shown : Type 0 where
  pub log : Option (List Moved)
  pub left : Option (List ℕ)
  pub ended : Bool
  pub faults : ℕ
  pub readings : Option (List ℤ)

-- A connection was served to this end, by passes that were then these, over what showed this before and after.
pub record Serves (plan : Planning) (passes after : List TableView) (old new : Shown) (end : Ending) : Type 0 where
  -- what moved, the answers in the order in which they were decided, and the frames with the marks of the answers
  pub log : List Moved
  pub answers : List Answered
  pub played : Played
  pub moved : new.log ≡ more old.log log
  pub plays : play answers (timeline_of log) ≡ played
  -- what was decided is answered, each item once, at points of the tables' histories, by one reading of the clock for each
  pub asked : IsAsked end played answers
  pub used : played.used ≡ answers
  pub served : Served plan passes answers after
  pub timed : GoesOn old.readings (map reading_of answers) new.readings
  pub in_time : All IsInTime answers
  -- what went: whole frames, each due in its place, and of one that isn't whole a front
  pub own : IsOwn log
  pub unfinished : EndsInDue played.marked (framing_of log).outflow
  pub was_due : EachWasDue played.marked
  pub in_order : IsInOrder played.marked (λ id. spelling_on id answers)
  -- when: where the link waited, where a frame's first byte was read, and at the end
  pub places : HoldsFrom (SilentAt answers) (ReadyAt answers) unframed log
  pub stops : StopsAtFault played.marked
  pub ends : Ends end (framing_of log) played new.ended new.left
  pub cause : EndCause old.faults new.faults end
