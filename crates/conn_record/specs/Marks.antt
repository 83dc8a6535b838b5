-- The frames of a record, without the marks of what the caller did.
use Rattle.std.specs.Prelude.{◌≡◌, ℕ, Bool, false, List, [], ◌∷◌, None}
use Rattle.links.specs.Link.{Moved}
use Rattle.h2_frames.specs.declared.frame.Frame.{Frame}
use Rattle.h2_frames.specs.Sound.{IsFrame}
use Rattle.h2_record.specs.Record.{Record, In, Out, Given, Whole, Broken, any_in, any_out}
use Rattle.h2_record.specs.Windows.{initial_of, connection_window_of, send_window_of, receive_window_of}
use Rattle.h2_record.specs.Faults.{first_fault_of}
use Rattle.h2_record.specs.Control.{written_control_of}
use Rattle.h2_record.specs.Texts.{written_codes}
use Rattle.conn_record.specs.Timeline.{timeline_of, is_broken}
use Rattle.conn_record.specs.Written.{with_outs, spelled_out}

abbrev pub unmarked : Record → Record
unmarked [] = []
unmarked (In frame ∷ r) = In frame ∷ unmarked r
unmarked (Out frame ∷ r) = Out frame ∷ unmarked r
unmarked (Given stream part ∷ r) = unmarked r
unmarked (Whole ∷ r) = unmarked r
unmarked (Broken fault ∷ r) = Broken fault ∷ unmarked r

-- each frame that came is one that some bytes spell with a payload of at most 16,384 bytes and that no rule of framing
-- refuses
abbrev pub EachIsFrame : Record → Type 0
EachIsFrame [] = Unit {0}
EachIsFrame (In frame ∷ r) = IsFrame frame × EachIsFrame r
EachIsFrame (Out frame ∷ r) = EachIsFrame r
EachIsFrame (Given stream part ∷ r) = EachIsFrame r
EachIsFrame (Whole ∷ r) = EachIsFrame r
EachIsFrame (Broken fault ∷ r) = EachIsFrame r

-- What is read off the frames alone is the same.
pub record Agree (r other : Record) : Type 0 where
  pub came : (test : Frame → Bool) → any_in test r ≡ any_in test other
  pub went : (test : Frame → Bool) → any_out test r ≡ any_out test other
  pub initial : initial_of r ≡ initial_of other
  pub connection : connection_window_of r ≡ connection_window_of other
  pub send : (id : ℕ) → send_window_of r id ≡ send_window_of other id
  pub receive : (id : ℕ) → receive_window_of r id ≡ receive_window_of other id
  pub control : written_control_of r ≡ written_control_of other
  pub codes : (id : ℕ) → written_codes r id ≡ written_codes other id
  pub spelled : spelled_out r ≡ spelled_out other

-- Records of the same frames agree in it, whatever their marks are.
abbrev pub MarksChangeNothing : Type 0
MarksChangeNothing = (r other : Record) → unmarked r ≡ unmarked other → Agree r other

-- A timeline has no marks.
abbrev pub TimelinesAreUnmarked : Type 0
TimelinesAreUnmarked = (log : List Moved) → unmarked (timeline_of log) ≡ timeline_of log

-- Frames that go stand in both.
abbrev pub OutsStand : Type 0
OutsStand = (r : Record) (frames : List Frame) → unmarked (with_outs r frames) ≡ with_outs (unmarked r) frames

-- The frames of a timeline that came were spelled, and so were those of a record with marks whose frames they are.
abbrev pub TimelinesAreSpelled : Type 0
TimelinesAreSpelled = (log : List Moved) (r : Record) → unmarked r ≡ timeline_of log → EachIsFrame r

-- Where no rule of the connection is broken, none of framing is.
abbrev pub SoundIsUnbroken : Type 0
SoundIsUnbroken = (r : Record) → first_fault_of r ≡ None → is_broken (unmarked r) ≡ false
