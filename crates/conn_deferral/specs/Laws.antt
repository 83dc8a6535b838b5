-- Laws of two records of which one defers parts of answers.
use Rattle.std.specs.Prelude.{◌≡◌, ℕ, ◌==◌, true, false, List, [], ◌∷◌, ◌++◌, None}
use Rattle.h2_frames.specs.declared.frame.Frame.{Frame}
use Rattle.h2_frames.specs.declared.fault.H2Fault.{H2Fault}
use Rattle.h2_record.specs.Record.{Record, AnswerPart, In, Given, Whole, Broken, any_in}
use Rattle.h2_record.specs.Windows.{send_window_of, connection_window_of}
use Rattle.h2_record.specs.Live.{ends}
use Rattle.h2_record.specs.Resets.{resets_of, is_live}
use Rattle.h2_record.specs.Faults.{fault_by, first_fault_of}
use Rattle.h2_record.specs.Credits.{owed_of, kept_of}
use Rattle.h2_record.specs.Control.{control_of, written_control_of}
use Rattle.h2_record.specs.Events.{events_of}
use Rattle.h2_record.specs.Texts.{Token, part_text, written_text}
use Rattle.conn_record.specs.Written.{with_outs, AreDue}
use Rattle.h2_record.specs.Written.{EachWasDue}
use Rattle.h2_conn.specs.Held.{Held}
use Rattle.h2_conn.specs.Stands.{Stands}
use Rattle.conn_record.specs.Giving.{MayBeGiven, EachWasGiven}
use Rattle.h2_record.specs.Quiet.{NoneFits}
use Rattle.conn_deferral.specs.Resting.{SaysAll}
use Rattle.conn_deferral.specs.Deferred.{undeferred, Defers, Dealing, Deals}

-- Each rule that is read off a record is the same on both: faults, resets and the streams that live, windows, control
-- frames, credit, what a frame tells, and what was written.
pub record Agrees (given decided : Record) : Type 0 where
  pub sound : first_fault_of given ≡ first_fault_of decided
  pub fault : (frame : Frame) → fault_by given frame ≡ fault_by decided frame
  pub resets : resets_of given ≡ resets_of decided
  pub live : (id : ℕ) → is_live given id ≡ is_live decided id
  pub send : (id : ℕ) → send_window_of given id ≡ send_window_of decided id
  pub connection : connection_window_of given ≡ connection_window_of decided
  pub control : control_of given ≡ control_of decided
  pub went : written_control_of given ≡ written_control_of decided
  pub owed : owed_of given ≡ owed_of decided
  pub kept : (id : ℕ) → kept_of given id ≡ kept_of decided id
  pub events : (frame : Frame) → events_of given frame ≡ events_of decided frame
  pub written : (id : ℕ) → written_text given id ≡ written_text decided id

abbrev pub RulesAgree : Type 0
RulesAgree = (given decided : Record) → undeferred given ≡ undeferred decided → Agrees given decided

-- Frames that are due one behind the other by what was given are so by what was decided, and both records have them.
abbrev pub DueByBoth : Type 0
DueByBoth = (given decided : Record) (left : ℕ → List Token) (frames : List Frame) → Defers given decided left → AreDue given frames
    → AreDue decided frames × Defers (with_outs given frames) (with_outs decided frames) left

-- Both have a frame more that came, the mark of a whole request, or a broken rule of framing.
abbrev pub StaysDeferred : Type 0
StaysDeferred = (given decided : Record) (left : ℕ → List Token) → Defers given decided left
    → ((frame : Frame) → Defers (In frame ∷ given) (In frame ∷ decided) left) × Defers (Whole ∷ given) (Whole ∷ decided) left
    × ((fault : H2Fault) → Defers (Broken fault ∷ given) (Broken fault ∷ decided) left)

-- A part is given where it is decided, if nothing is left on its stream.
abbrev pub GivenAtOnce : Type 0
GivenAtOnce = (given decided : Record) (left : ℕ → List Token) (stream : ℕ) (part : AnswerPart) → Defers given decided left → left stream ≡ []
    → Defers (Given stream part ∷ given) (Given stream part ∷ decided) left

module _ (given decided : Record) (left after : ℕ → List Token) (stream : ℕ) (part : AnswerPart) where
  -- the client has ended the stream, and on others as much is left as before
  pub record OnEnded : Type 0 where
    pub defers : Defers given decided left
    pub ended : any_in (ends stream) given ≡ true
    pub others : (id : ℕ) → (id == stream) ≡ false → after id ≡ left id

  -- The next part of what is left is given.
  abbrev pub IsGivenLate : Type 0
  IsGivenLate = OnEnded → left stream ≡ part_text part ++ after stream → Defers (Given stream part ∷ given) decided after

  -- A part is decided, and left to be given.
  abbrev pub IsLeft : Type 0
  IsLeft = OnEnded → after stream ≡ left stream ++ part_text part → Defers given (Given stream part ∷ decided) after

abbrev pub GivenLate : Type 0
GivenLate = (given decided : Record) (left after : ℕ → List Token) (stream : ℕ) (part : AnswerPart) → IsGivenLate given decided left after stream part

abbrev pub LeftToGive : Type 0
LeftToGive = (given decided : Record) (left after : ℕ → List Token) (stream : ℕ) (part : AnswerPart) → IsLeft given decided left after stream part

-- ---- a connection and what is left

-- On a new connection nothing was given, and nothing is left.
abbrev pub DealingBegins : Type 0
DealingBegins = (dealing : Dealing) → Stands dealing.conn [] → ((id : ℕ) → dealing.left id ≡ []) → Deals dealing []

-- frames that are due one behind the other go
pub record Sends (old new : Held) (frames : List Frame) : Type 0 where
  pub due : (r : Record) → Stands old r → AreDue r frames
  pub stands : (r : Record) → Stands old r → Stands new (with_outs r frames)

-- So they are due by what was decided, and it goes on with them.
abbrev pub DealsOn : Type 0
DealsOn = (old : Dealing) (new : Held) (frames : List Frame) (decided : Record) → Sends old.conn new frames → Deals old decided
    → AreDue decided frames × Deals (record { conn = new; left = old.left }) (with_outs decided frames)

-- And where no further frame that is due by what was given fits, none does.
abbrev pub DealsRest : Type 0
DealsRest = (old : Dealing) (new : Held) (frames : List Frame) (decided : Record) (room : ℕ) → Sends old.conn new frames → ((r : Record) → Stands old.conn r → NoneFits (with_outs r frames) room)
    → Deals old decided → SaysAll (record { conn = new; left = old.left }) room (with_outs decided frames)

-- a part is given where it may be
abbrev pub GivesPart : (old new : Held) (stream : ℕ) (part : AnswerPart) → Type 0
GivesPart old new stream part = (r : Record) → Stands old r → first_fault_of r ≡ None → EachWasGiven r → EachWasDue r → Stands new (Given stream part ∷ r) × MayBeGiven r stream part

-- the first of what was left on a stream is no more
pub record LeavesLess (old new : Dealing) (stream : ℕ) (part : AnswerPart) : Type 0 where
  pub next : old.left stream ≡ part_text part ++ new.left stream
  pub some : old.left stream ≡ [] → ⊥
  pub others : (id : ℕ) → (id == stream) ≡ false → new.left id ≡ old.left id

-- The next part of what is left is given, and what was decided is the same.
abbrev pub DealsPart : Type 0
DealsPart = (old new : Dealing) (stream : ℕ) (part : AnswerPart) (decided : Record) → GivesPart old.conn new.conn stream part → LeavesLess old new stream part
    → first_fault_of decided ≡ None → Deals old decided → Deals new decided

-- on a stream nothing is left any more
pub record LetsGo (old new : Dealing) (stream : ℕ) : Type 0 where
  pub conn : new.conn ≡ old.conn
  pub others : (id : ℕ) → (id == stream) ≡ false → new.left id ≡ old.left id

-- What is left on a stream that lives no more may be let go.
abbrev pub DealsLess : Type 0
DealsLess = (old new : Dealing) (stream : ℕ) (decided : Record) → LetsGo old new stream → (old.left stream ≡ [] → ⊥)
    → ((r : Record) → Stands old.conn r → first_fault_of r ≡ None → is_live r stream ≡ false) → first_fault_of decided ≡ None → EachWasGiven decided → Deals old decided → Deals new decided

-- The same frame comes, and tells the same.
abbrev pub DealsIn : Type 0
DealsIn = (old new : Dealing) (frame : Frame) (decided : Record) → ((r : Record) → Stands old.conn r → Stands new.conn (In frame ∷ r)) → ((id : ℕ) → new.left id ≡ old.left id)
    → Deals old decided → Deals new (In frame ∷ decided)
