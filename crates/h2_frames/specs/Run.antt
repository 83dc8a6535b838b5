-- Runs of a reader: pieces that it was fed and frames that it gave, in any order that its contracts allow.
use Rattle.std.specs.Prelude.{◌≡◌, ℕ, Bool, true, false, nat_eq, List, [], ◌∷◌, ◌++◌}
use Rattle.std.specs.List.{starts_with}
use Rattle.h2_frames.specs.declared.frame.Frame.{Frame}
use Rattle.h2_frames.specs.declared.fault.H2Fault.{H2Fault}
use Rattle.h2_frames.specs.declared.reader.Next.TheVariants as next
use Rattle.h2_frames.specs.Held.{Held}
use Rattle.h2_frames.specs.Reading.{preface, next_of, held_after, held_with}
use Rattle.h2_frames.specs.Framing.{AreFrames}

-- a piece that was fed, or a frame that was given; an answer without a frame changes nothing
pub data Event : Type 0 where
  Fed : List ℕ → Event
  Gave : Frame → Event

abbrev pub Does : Event → (old new : Held) → Type 0
Does (Fed piece) old new = new ≡ held_with old piece
Does (Gave frame) old new = (next_of old ≡ next.Frame frame) × (new ≡ held_after old (next.Frame frame))

abbrev pub Leads : List Event → (old new : Held) → Type 0
Leads [] old new = new ≡ old
Leads (event ∷ events) old new = (between : Held) × (Does event old between × Leads events between new)

-- a reader's first state
abbrev pub nothing_held : Held
nothing_held = record { started = false; bytes = [] }

-- the stream that came
abbrev pub stream_of : List Event → List ℕ
stream_of [] = []
stream_of (Fed piece ∷ events) = piece ++ stream_of events
stream_of (Gave frame ∷ events) = stream_of events

-- the frames that were given
abbrev pub frames_of : List Event → List Frame
frames_of [] = []
frames_of (Fed piece ∷ events) = frames_of events
frames_of (Gave frame ∷ events) = frame ∷ frames_of events

-- The stream is the preface, these frames, and what is held. Before the preface is whole no frame is given, and the
-- whole stream is held.
abbrev pub Reads : (started : Bool) (held : List ℕ) (stream : List ℕ) → List Frame → Type 0
Reads true held stream frames = (bytes : List ℕ) × (stream ≡ preface ++ bytes) × AreFrames frames bytes held
Reads false held stream frames = (held ≡ stream) × (frames ≡ []) × (starts_with nat_eq stream preface ≡ false)

-- However the stream came in pieces, what was given and what is held are a reading of the whole.
abbrev pub IsReadingOfAll : Type 0
IsReadingOfAll = (events : List Event) (now : Held) → Leads events nothing_held now → Reads now.started now.bytes (stream_of events) (frames_of events)

-- the next answer is no frame
abbrev pub GivesNoFrame : Held → Type 0
GivesNoFrame held = (frame : Frame) → next_of held ≡ next.Frame frame → ⊥

-- Two readings of one stream are one: where no further frame is given, the frames and what is held are the same.
abbrev pub IsOneReading : Type 0
IsOneReading = (events others : List Event) (now then : Held) → Leads events nothing_held now → Leads others nothing_held then
    → stream_of events ≡ stream_of others → GivesNoFrame now → GivesNoFrame then → (frames_of events ≡ frames_of others) × (now ≡ then)

-- A fault stays, whatever bytes follow.
abbrev pub IsLasting : Type 0
IsLasting = (events : List Event) (now : Held) (piece : List ℕ) (fault : H2Fault) → Leads events nothing_held now
    → next_of now ≡ next.Fault fault → next_of (held_with now piece) ≡ next.Fault fault
