-- What one filling of a buffer writes: frames that are due one behind another, whole, until none that is due fits.
use Rattle.std.specs.Prelude.{◌≡◌, ℕ, ◌-◌, ◌≤◌, List, ◌++◌, map, length, Option, Result, Ok, Err}
use Rattle.std.specs.List.{flat_map, concat, AllByRecursion}
use Rattle.outside.specs.Faults.{Rose}
use Rattle.links.specs.Told.{more}
use Rattle.links.specs.Link.{Moved, Wrote}
use Rattle.links.specs.Pieces.{TookPieces}
use Rattle.h2_frames.specs.declared.frame.Frame.{Frame}
use Rattle.h2_frames.specs.Spelling.{spelling}
use Rattle.h2_record.specs.Record.{Record}
use Rattle.h2_record.specs.Quiet.{NoneFits}
use Rattle.h2_conn.specs.Held.{Held}
use Rattle.h2_conn.specs.Stands.{Stands}
use Rattle.conn_deferral.specs.Deferred.{Dealing, Deals}
use Rattle.conn_requests.specs.Decided.{Played}
use Rattle.conn_service.specs.Going.{IsLeftOf}
use Rattle.conn_record.specs.declared.limits.TheConstants.{LEAST_ROOM, WRITE_ROOM, MOST_BEHIND}
use Rattle.conn_record.specs.Written.{with_outs, AreDue}
use Rattle.conn_record.specs.Sending.{IsSendable}
use Rattle.conn_loop.specs.declared.settling.Settled.{Settled}
use Rattle.conn_loop.specs.declared.settling.Settled.TheVariants as settled

-- the link took the first of these bytes, in pieces, and the rest is left
pub record TookFirst (log0 log : Option (List Moved)) (bytes : List ℕ) : Type 0 where
  pub pieces : List (List ℕ)
  pub left : List ℕ
  pub told : log ≡ more log0 (map Wrote pieces)
  pub joined : concat pieces ++ left ≡ bytes

-- All went, or the link met a fault behind the first of them.
abbrev pub Sends : {U E : Type 0} → Result U E → (bytes : List ℕ) (log0 log : Option (List Moved)) (before now : ℕ) → Type 0
Sends (Ok u) bytes log0 log before now = TookPieces log0 log bytes × (now ≡ before)
Sends (Err e) bytes log0 log before now = TookFirst log0 log bytes × Rose before now

-- what holds of a connection, with what is left of answers, and the record of what was decided
abbrev pub Holding : Type 1
Holding = Dealing → Record → Type 0

-- and what holds of them where no further frame fits a room
abbrev pub Resting : Type 1
Resting = Dealing → (room : ℕ) → Record → Type 0

-- Frames, each due behind those before it, were written whole, in any pieces, and parts that were left were given before and
-- between them.
pub record Went (Holds : Holding) (old new : Dealing) (log0 log : Option (List Moved)) : Type 0 where
  pub frames : List Frame
  pub pieces : List (List ℕ)
  pub told : log ≡ more log0 (map Wrote pieces)
  pub joined : concat pieces ≡ flat_map spelling frames
  pub sendable : AllByRecursion IsSendable frames
  pub due : (r : Record) → Holds old r → AreDue r frames
  pub holds : (r : Record) → Holds old r → Holds new (with_outs r frames)
  pub left : (p : Played) → IsLeftOf p old.left → IsLeftOf p new.left

-- No further frame that is due by what was given fits a room which holds each control frame, reset and header block; and
-- where the connection goes on, no part that is left may be given.
pub record LeavesNone (Holds : Holding) (Rests : Resting) (old new : Dealing) (frames : List Frame) : Type 0 where
  pub room : ℕ
  pub enough : LEAST_ROOM ≤ room
  pub none : (r : Record) → Holds old r → Rests new room (with_outs r frames)

-- Such frames were written in part, or none was.
pub record WentInPart (Holds : Holding) (old : Dealing) (log0 log : Option (List Moved)) : Type 0 where
  pub frames : List Frame
  pub pieces : List (List ℕ)
  pub left : List ℕ
  pub told : log ≡ more log0 (map Wrote pieces)
  pub joined : concat pieces ++ left ≡ flat_map spelling frames
  pub sendable : AllByRecursion IsSendable frames
  pub due : (r : Record) → Holds old r → AreDue r frames

-- Where memory was wanting, nothing moved.
abbrev pub Settles : Holding → Resting → Settled → (old new : Dealing) (log0 log : Option (List Moved)) (before now : ℕ) → Type 0
Settles Holds Rests settled.Quiet old new log0 log before now = (w : Went Holds old new log0 log) × LeavesNone Holds Rests old new w.frames × (now ≡ before)
Settles Holds Rests settled.Behind old new log0 log before now = (w : Went Holds old new log0 log) × (MOST_BEHIND ≤ length (concat w.pieces)) × (now ≡ before)
Settles Holds Rests settled.LinkFault old new log0 log before now = WentInPart Holds old log0 log × Rose before now
Settles Holds Rests settled.Memory old new log0 log before now = (log ≡ log0) × (now ≡ before)

-- A filled buffer was sent, whole or in part. It is quiet where enough was left of the buffer.
abbrev pub SendsFilled : Settled → (bytes : List ℕ) (log0 log : Option (List Moved)) (before now : ℕ) → Type 0
SendsFilled settled.Quiet bytes log0 log before now = TookPieces log0 log bytes × (LEAST_ROOM ≤ WRITE_ROOM - length bytes) × (now ≡ before)
SendsFilled settled.Behind bytes log0 log before now = TookPieces log0 log bytes × (MOST_BEHIND ≤ length bytes) × (now ≡ before)
SendsFilled settled.LinkFault bytes log0 log before now = TookFirst log0 log bytes × Rose before now
SendsFilled settled.Memory bytes log0 log before now = ⊥

-- Frames that are due were appended to a buffer, until none that is due fits what is left of it.
pub record Appends (old new : Held) (before after : List ℕ) : Type 0 where
  pub frames : List Frame
  pub bytes : List ℕ
  pub joined : after ≡ before ++ bytes
  pub spelled : bytes ≡ flat_map spelling frames
  pub sendable : AllByRecursion IsSendable frames
  pub fits : length after ≤ WRITE_ROOM
  pub due : (r : Record) → Stands old r → AreDue r frames
  pub stands : (r : Record) → Stands old r → Stands new (with_outs r frames)
  pub none : (r : Record) → Stands old r → NoneFits (with_outs r frames) (WRITE_ROOM - length after)

-- Whole frames, each due behind those before it, are in a buffer, and parts that were left were given before and between them.
pub record Filled (Holds : Holding) (old new : Dealing) (bytes : List ℕ) : Type 0 where
  pub frames : List Frame
  pub spelled : bytes ≡ flat_map spelling frames
  pub sendable : AllByRecursion IsSendable frames
  pub due : (r : Record) → Holds old r → AreDue r frames
  pub holds : (r : Record) → Holds old r → Holds new (with_outs r frames)
  pub left : (p : Played) → IsLeftOf p old.left → IsLeftOf p new.left

-- Where enough is left of the buffer, nothing more fits.
pub record FillsAll (Holds : Holding) (Rests : Resting) (old new : Dealing) (bytes : List ℕ) : Type 0 where
  pub filled : Filled Holds old new bytes
  pub fits : length bytes ≤ WRITE_ROOM
  pub rests : LEAST_ROOM ≤ WRITE_ROOM - length bytes → (r : Record) → Holds old r → Rests new (WRITE_ROOM - length bytes) (with_outs r filled.frames)
