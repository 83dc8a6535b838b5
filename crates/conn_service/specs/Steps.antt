-- What the loop of a connection keeps where frames are written, where the link waits and where a frame is read, and how a
-- fault of the link ends it.
use Rattle.std.specs.Prelude.{◌≡◌, ◌⊎◌, ℕ, ℤ, ◌+◌, ◌≤◌, true, List, [], ◌∷◌, ◌++◌, map, length, All, Option, Some, None}
use Rattle.std.specs.List.{flat_map, concat, AllByRecursion}
use Rattle.outside.specs.Faults.{Rose}
use Rattle.links.specs.Told.{more, GoesOn}
use Rattle.links.specs.Link.{Moved, Read, Wrote, Waited}
use Rattle.h2_frames.specs.Held.{Held as ReaderHeld}
use Rattle.h2_frames.specs.Reading.{next_of, need_of, held_with, held_after}
use Rattle.h2_frames.specs.Spelling.{spelling}
use Rattle.h2_frames.specs.declared.reader.Next.{Next}
use Rattle.h2_frames.specs.declared.reader.Next.TheVariants as answers
use Rattle.h2_record.specs.Faults.{first_fault_of, fault_by}
use Rattle.h2_record.specs.Record.{Record, In, Broken}
use Rattle.h2_record.specs.Control.{control_of, written_control_of}
use Rattle.h2_record.specs.Written.{EachWasDue, IsFront}
use Rattle.h2_record.specs.Texts.{given_text}
use Rattle.h2_frames.specs.declared.fault.H2Fault.{H2Fault}
use Rattle.h2_frames.specs.declared.frame.Frame.{Frame}
use Rattle.conn_deferral.specs.Deferred.{Dealing, Deals}
use Rattle.open_tables.specs.Tables.{TableView}
use Rattle.conn_record.specs.declared.limits.TheConstants.{MOST_BEHIND}
use Rattle.conn_record.specs.Timeline.{framing_of}
use Rattle.conn_record.specs.Places.{begins_frame}
use Rattle.conn_record.specs.Giving.{EachWasGiven}
use Rattle.conn_record.specs.Written.{with_outs, AreDue}
use Rattle.conn_record.specs.Sending.{IsSendable}
use Rattle.conn_requests.specs.Decided.{Answered, Played, item_of, take_frame}
use Rattle.conn_requests.specs.Spelled.{spelling_on}
use Rattle.conn_service.specs.declared.ending.Ending.TheVariants as ending
use Rattle.conn_service.specs.Served.{Planning, Served}
use Rattle.conn_service.specs.Quiet.{IsAnswered, IsWritten}
use Rattle.conn_service.specs.Ends.{StopsAtFault}
use Rattle.conn_service.specs.Serves.{reading_of, IsInTime, Shown, Serves}
use Rattle.conn_service.specs.Going.{Kept, kept_of, resumed, IsLeftOf, Going}

-- The link moved this, and the clock made no reading.
pub record Moves (now next : Shown) (entries : List Moved) : Type 0 where
  pub log : next.log ≡ more now.log entries
  pub readings : next.readings ≡ now.readings

-- frames, due one behind the other, that are read again as they were written
pub record AreSent (p : Played) (frames : List Frame) : Type 0 where
  pub due : AreDue p.marked frames
  pub sendable : AllByRecursion IsSendable frames

-- with these frames gone
abbrev pub gone : Played → List Frame → Played
gone p frames = record p { marked = with_outs p.marked frames }

-- what stands in a record where a reader answers so
abbrev pub met : Next → Record → Record
met (answers.Frame frame) r = In frame ∷ r
met answers.More r = r
met (answers.Fault fault) r = Broken fault ∷ r

-- a rule of framing is broken, or the frame that is whole breaks one
abbrev pub Breaks : Record → Next → H2Fault → Type 0
Breaks r (answers.Frame frame) fault = fault_by r frame ≡ Some fault
Breaks r answers.More fault = ⊥
Breaks r (answers.Fault broken) fault = broken ≡ fault

-- A frame was taken, and all that it decided was answered, whatever answers follow.
pub record Heeded (plan : Planning) (frame : Frame) (p : Played) (passes after : List TableView) (conn : Dealing) (kept : ℕ → Option Kept) (readings0 readings : Option (List ℤ)) : Type 0 where
  pub answers : List Answered
  pub behind : Played
  pub takes : (later : List Answered) → take_frame (resumed p (answers ++ later)) frame ≡ resumed behind later
  pub used : behind.used ≡ p.used ++ answers
  pub deals : Deals conn behind.marked
  pub left : IsLeftOf behind conn.left
  pub calls : (id : ℕ) → kept id ≡ kept_of behind.used id (behind.calls id)
  pub sound : first_fault_of behind.marked ≡ None
  pub answered : IsAnswered behind
  pub served : Served plan passes answers after
  pub timed : GoesOn readings0 (map reading_of answers) readings
  pub in_time : All IsInTime answers
  pub was_open : EachWasGiven behind.marked
  pub was_due : EachWasDue behind.marked

-- A frame was taken, and memory was wanting while what it decided was answered: the first of it is answered, and the last
-- of these answers may be lost.
pub record HeededInPart (plan : Planning) (frame : Frame) (p : Played) (passes after : List TableView) (readings0 readings : Option (List ℤ)) : Type 0 where
  pub answers : List Answered
  pub behind : Played
  pub takes : take_frame (resumed p answers) frame ≡ behind
  pub used : behind.used ≡ p.used ++ answers
  pub asked : IsFront (map item_of behind.used) behind.decided
  pub served : Served plan passes answers after
  pub timed : GoesOn readings0 (map reading_of answers) readings
  pub in_time : All IsInTime answers
  pub given : (id : ℕ) → given_text behind.marked id ≡ spelling_on id behind.used
  pub was_due : EachWasDue behind.marked
  pub stops : StopsAtFault behind.marked

module _ (plan : Planning) (passes0 passes : List TableView) (old now : Shown) (conn : Dealing) (reader : ReaderHeld) (kept : ℕ → Option Kept) where
  -- frames were written whole, in any pieces, and parts that were left were given before and between them
  abbrev pub KeepsOverWrites : Type 0
  KeepsOverWrites = (g : Going plan passes0 passes old now conn reader kept) (next : Shown) (frames : List Frame) (pieces : List (List ℕ)) (behind : Dealing)
      → AreSent g.played frames → concat pieces ≡ flat_map spelling frames → Moves now next (map Wrote pieces) → next.faults ≡ now.faults → Deals behind (with_outs g.played.marked frames) → IsLeftOf g.played behind.left
      → (after : Going plan passes0 passes old next behind reader kept) × (after.played ≡ gone g.played frames) × ((framing_of after.log).since ≡ (framing_of g.log).since + length (concat pieces))

  -- the link waited where the connection was quiet
  abbrev pub KeepsOverWaits : Type 0
  KeepsOverWaits = (g : Going plan passes0 passes old now conn reader kept) (next : Shown) → IsWritten g.played → Moves now next (Waited ∷ []) → next.faults ≡ now.faults
      → (after : Going plan passes0 passes old next conn reader kept) × (after.played ≡ g.played)

  -- frames were written in part, or none was, and the link met a fault
  abbrev pub EndsByFault : Type 0
  EndsByFault = (g : Going plan passes0 passes old now conn reader kept) (next : Shown) (frames : List Frame) (pieces : List (List ℕ)) (left : List ℕ)
      → AreSent g.played frames → concat pieces ++ left ≡ flat_map spelling frames → Moves now next (map Wrote pieces) → Rose now.faults next.faults
      → Serves plan passes0 passes old next ending.LinkFault

  -- a piece of no more than the reader asks for was read, where this may be
  pub record IsHeard (g : Going plan passes0 passes old now conn reader kept) (bytes : List ℕ) (answer : Next) : Type 0 where
    pub few : length bytes ≤ need_of reader
    pub ready : begins_frame (framing_of g.log) ≡ true → IsWritten g.played ⊎ (MOST_BEHIND ≤ (framing_of g.log).since)
    pub answers : next_of (held_with reader bytes) ≡ answer

  -- no frame is whole yet
  abbrev pub KeepsOverReads : Type 0
  KeepsOverReads = (g : Going plan passes0 passes old now conn reader kept) (next : Shown) (bytes : List ℕ) → IsHeard g bytes answers.More → Moves now next (Read bytes ∷ []) → next.faults ≡ now.faults
      → (after : Going plan passes0 passes old next conn (held_with reader bytes) kept) × (after.played ≡ g.played)

  -- a frame is whole, and was heeded
  abbrev pub KeepsOverFrames : Type 0
  KeepsOverFrames = (g : Going plan passes0 passes old now conn reader kept) (next : Shown) (bytes : List ℕ) (frame : Frame) (after : List TableView) (behind : Dealing) (keeps : ℕ → Option Kept)
      → IsHeard g bytes (answers.Frame frame) → next.log ≡ more now.log (Read bytes ∷ []) → next.faults ≡ now.faults
      → (heeded : Heeded plan frame g.played passes after behind keeps now.readings next.readings)
      → (over : Going plan passes0 after old next behind (held_after (held_with reader bytes) (answers.Frame frame)) keeps) × (over.played ≡ heeded.behind)

  -- a rule was broken, and all control frames were written, GOAWAY the last of them
  abbrev pub EndsByGoaway : Type 0
  EndsByGoaway = (g : Going plan passes0 passes old now conn reader kept) (next : Shown) (bytes : List ℕ) (answer : Next) (fault : H2Fault) (frames : List Frame) (pieces : List (List ℕ))
      → IsHeard g bytes answer → Breaks g.played.marked answer fault → AreDue (met answer g.played.marked) frames → AllByRecursion IsSendable frames → concat pieces ≡ flat_map spelling frames
      → Moves now next (Read bytes ∷ map Wrote pieces) → next.faults ≡ now.faults
      → written_control_of (with_outs (met answer g.played.marked) frames) ≡ control_of (with_outs (met answer g.played.marked) frames)
      → Serves plan passes0 passes old next (ending.Goaway fault.code fault.rule)

  -- a rule was broken, and the link met a fault behind a part of the control frames that are due, or memory was wanting
  abbrev pub EndsBeforeGoaway : Type 0
  EndsBeforeGoaway = (g : Going plan passes0 passes old now conn reader kept) (next : Shown) (bytes : List ℕ) (answer : Next) (fault : H2Fault) (frames : List Frame) (pieces : List (List ℕ)) (left : List ℕ)
      → IsHeard g bytes answer → Breaks g.played.marked answer fault → AreDue (met answer g.played.marked) frames → AllByRecursion IsSendable frames → concat pieces ++ left ≡ flat_map spelling frames
      → Moves now next (Read bytes ∷ map Wrote pieces)
      → (Rose now.faults next.faults → Serves plan passes0 passes old next ending.LinkFault) × (next.faults ≡ now.faults → Serves plan passes0 passes old next ending.Memory)

  -- a frame is whole, and memory was wanting while it was heeded
  abbrev pub EndsInFrame : Type 0
  EndsInFrame = (g : Going plan passes0 passes old now conn reader kept) (next : Shown) (bytes : List ℕ) (frame : Frame) (after : List TableView)
      → IsHeard g bytes (answers.Frame frame) → next.log ≡ more now.log (Read bytes ∷ []) → next.faults ≡ now.faults
      → HeededInPart plan frame g.played passes after now.readings next.readings → Serves plan passes0 after old next ending.Memory

abbrev pub WritesGoOn : Type 0
WritesGoOn = (plan : Planning) (passes0 passes : List TableView) (old now : Shown) (conn : Dealing) (reader : ReaderHeld) (kept : ℕ → Option Kept)
    → KeepsOverWrites plan passes0 passes old now conn reader kept

abbrev pub WaitsGoOn : Type 0
WaitsGoOn = (plan : Planning) (passes0 passes : List TableView) (old now : Shown) (conn : Dealing) (reader : ReaderHeld) (kept : ℕ → Option Kept)
    → KeepsOverWaits plan passes0 passes old now conn reader kept

abbrev pub FaultsEnd : Type 0
FaultsEnd = (plan : Planning) (passes0 passes : List TableView) (old now : Shown) (conn : Dealing) (reader : ReaderHeld) (kept : ℕ → Option Kept)
    → EndsByFault plan passes0 passes old now conn reader kept

abbrev pub ReadsGoOn : Type 0
ReadsGoOn = (plan : Planning) (passes0 passes : List TableView) (old now : Shown) (conn : Dealing) (reader : ReaderHeld) (kept : ℕ → Option Kept)
    → KeepsOverReads plan passes0 passes old now conn reader kept

abbrev pub FramesGoOn : Type 0
FramesGoOn = (plan : Planning) (passes0 passes : List TableView) (old now : Shown) (conn : Dealing) (reader : ReaderHeld) (kept : ℕ → Option Kept)
    → KeepsOverFrames plan passes0 passes old now conn reader kept

abbrev pub GoawaysEnd : Type 0
GoawaysEnd = (plan : Planning) (passes0 passes : List TableView) (old now : Shown) (conn : Dealing) (reader : ReaderHeld) (kept : ℕ → Option Kept)
    → EndsByGoaway plan passes0 passes old now conn reader kept

abbrev pub PartsEnd : Type 0
PartsEnd = (plan : Planning) (passes0 passes : List TableView) (old now : Shown) (conn : Dealing) (reader : ReaderHeld) (kept : ℕ → Option Kept)
    → EndsBeforeGoaway plan passes0 passes old now conn reader kept

abbrev pub FramesEnd : Type 0
FramesEnd = (plan : Planning) (passes0 passes : List TableView) (old now : Shown) (conn : Dealing) (reader : ReaderHeld) (kept : ℕ → Option Kept)
    → EndsInFrame plan passes0 passes old now conn reader kept
