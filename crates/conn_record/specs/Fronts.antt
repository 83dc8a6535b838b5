-- What follows for a whole record where each frame that went was due in its place: what was written is a front of what
-- was to be written, in each kind of frame, and no other kind went.
use Rattle.std.specs.Prelude.{◌≡◌, ℕ, Bool, true, false, List, ◌∷◌, ◌++◌, length, pos, ◌≤ℤ◌}
use Rattle.h2_frames.specs.declared.frame.Frame.{Frame}
use Rattle.h2_frames.specs.declared.frame.Frame.TheVariants as frames
use Rattle.h2_record.specs.Record.{Record, Out}
use Rattle.h2_record.specs.Windows.{send_window_of, connection_window_of}
use Rattle.h2_record.specs.Resets.{resets_of}
use Rattle.h2_record.specs.Control.{control_of, written_control_of}
use Rattle.h2_record.specs.Texts.{written_text, given_text, written_codes, codes_on}
use Rattle.h2_record.specs.Due.{IsDue}
use Rattle.h2_record.specs.Written.{EachWasDue, IsFront}
use Rattle.conn_record.specs.Written.{with_outs, AreDue}

-- what went on a stream is a front of what was given on it: HEADERS, DATA and the caller's resets
abbrev pub TextsAreFronts : Type 0
TextsAreFronts = (r : Record) (id : ℕ) → EachWasDue r → IsFront (written_text r id) (given_text r id)

-- the control frames that went are the first of those due
abbrev pub ControlIsFront : Type 0
ControlIsFront = (r : Record) → EachWasDue r → IsFront (written_control_of r) (control_of r)

-- the resets that went on a stream are the first of those due on it
abbrev pub ResetsAreFronts : Type 0
ResetsAreFronts = (r : Record) (id : ℕ) → EachWasDue r → IsFront (written_codes r id) (codes_on (resets_of r) id)

-- each frame was due by the record before it
abbrev pub DueInPlace : Type 0
DueInPlace = (newer older : Record) (frame : Frame) → EachWasDue (newer ++ Out frame ∷ older) → IsDue older frame

-- The kinds of frames that a server of this project writes: HEADERS in one frame, DATA without END_STREAM and without
-- padding, RST_STREAM, SETTINGS, PING, GOAWAY and WINDOW_UPDATE.
abbrev pub IsServerFrame : Frame → Type 0
IsServerFrame (frames.Headers stream ended whole block) = whole ≡ true
IsServerFrame (frames.Body stream ended bytes counted) = (ended ≡ false) × (counted ≡ length bytes)
IsServerFrame (frames.Reset stream code) = Unit {0}
IsServerFrame (frames.Settings acked pairs) = Unit {0}
IsServerFrame (frames.Ping acked octets) = Unit {0}
IsServerFrame (frames.Goaway last code) = Unit {0}
IsServerFrame (frames.Window stream add) = Unit {0}
IsServerFrame _ = ⊥

abbrev pub OnlyServerFrames : Type 0
OnlyServerFrames = (newer older : Record) (frame : Frame) → EachWasDue (newer ++ Out frame ∷ older) → IsServerFrame frame

-- DATA stand within both windows at their place.
abbrev pub DataWithinWindows : Type 0
DataWithinWindows = (newer older : Record) (stream counted : ℕ) (ended : Bool) (bytes : List ℕ) → EachWasDue (newer ++ Out (frames.Body stream ended bytes counted) ∷ older)
    → (pos (length bytes) ≤ℤ send_window_of older stream) × (pos (length bytes) ≤ℤ connection_window_of older)

-- Where frames are due one behind the other, each was due once the first of them went, and the others still are.
abbrev pub DueGoesOn : Type 0
DueGoesOn = (r : Record) (first others : List Frame) → EachWasDue r → AreDue r (first ++ others) → EachWasDue (with_outs r first) × AreDue (with_outs r first) others
