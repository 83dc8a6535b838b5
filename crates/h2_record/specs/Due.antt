-- Which frames may be written next.
use Rattle.std.specs.Prelude.{◌≡◌, ℕ, ◌<◌, ◌≤◌, ◌⊎◌, true, false, Bool, List, [], ◌∷◌, ◌++◌, length, None, pos, ◌≤ℤ◌, if◌then◌else◌}
use Rattle.h2_frames.specs.Header.{max_frame_size}
use Rattle.h2_frames.specs.Spelling.{frame_len}
use Rattle.h2_frames.specs.declared.frame.Frame.{Frame}
use Rattle.h2_frames.specs.declared.frame.Frame.TheVariants as frames
use Rattle.h2_record.specs.Record.{Record, any_out}
use Rattle.h2_record.specs.Windows.{send_window_of, connection_window_of}
use Rattle.h2_record.specs.Resets.{is_live, resets_of}
use Rattle.h2_record.specs.Faults.{first_fault_of}
use Rattle.h2_record.specs.Rules.{is_settings}
use Rattle.h2_record.specs.Control.{control_of, written_control_of, due_after}
use Rattle.h2_record.specs.Texts.{Token, given_text, written_text, frame_text, has_headed, codes_on, written_codes}

-- the control frames due, the credit of the latest frame among them
abbrev pub settled_control_of : Record → List Frame
settled_control_of r = due_after (control_of r) [] r (first_fault_of r) None

-- it is the next of them
pub record IsNextControl (r : Record) (frame : Frame) : Type 0 where
  pub behind : List Frame
  pub next : written_control_of r ++ frame ∷ behind ≡ settled_control_of r

-- a control frame of the stream waits
pub record WaitsControl (r : Record) (id : ℕ) : Type 0 where
  pub before : List Frame
  pub behind : List Frame
  pub add : ℕ
  pub waits : written_control_of r ++ before ++ frames.Window id add ∷ behind ≡ settled_control_of r

-- Frames on streams go while there is no fault, and behind the server's SETTINGS.
pub record IsStarted (r : Record) : Type 0 where
  pub sound : first_fault_of r ≡ None
  pub started : any_out is_settings r ≡ true

-- the frame is the next of what was given on a live stream
pub record IsNextText (r : Record) (id : ℕ) (frame : Frame) : Type 0 where
  pub started : IsStarted r
  pub live : is_live r id ≡ true
  pub behind : List Token
  pub next : written_text r id ++ frame_text r id frame ++ behind ≡ given_text r id

-- HEADERS whole, with the size update where they are the connection's first
pub record IsDueHeaders (r : Record) (id : ℕ) (ended whole : Bool) (block : List ℕ) : Type 0 where
  pub text : IsNextText r id (frames.Headers id ended whole block)
  pub in_one : whole ≡ true
  pub spelling : List ℕ
  pub octets : block ≡ (if has_headed r then [] else 32 ∷ []) ++ spelling

-- DATA of a byte at least, within both windows and without padding, which never end the stream
pub record IsDueData (r : Record) (id : ℕ) (ended : Bool) (bytes : List ℕ) (counted : ℕ) : Type 0 where
  pub text : IsNextText r id (frames.Body id ended bytes counted)
  pub goes_on : ended ≡ false
  pub some : 0 < length bytes
  pub small : length bytes ≤ max_frame_size
  pub unpadded : counted ≡ length bytes
  pub stream : pos (length bytes) ≤ℤ send_window_of r id
  pub connection : pos (length bytes) ≤ℤ connection_window_of r

-- DATA carry as much as a frame, the room, both windows and what waits let them.
abbrev pub IsLongest : Record → (room : ℕ) → Frame → Type 0
IsLongest r room (frames.Body stream ended bytes counted) =
    (more : List ℕ) → length bytes < length more → IsDueData r stream false more (length more) → room < frame_len (frames.Body stream false more (length more))
IsLongest r room _ = Unit {0}

-- the next reset of the server's on a closed stream
pub record IsNextCode (r : Record) (id code : ℕ) : Type 0 where
  pub started : IsStarted r
  pub closed : is_live r id ≡ false
  pub behind : List ℕ
  pub next : written_codes r id ++ code ∷ behind ≡ codes_on (resets_of r) id

-- A reset goes behind all that waits on its stream, control frames too.
pub record IsDueReset (r : Record) (id code : ℕ) : Type 0 where
  pub next : IsNextText r id (frames.Reset id code) ⊎ IsNextCode r id code
  pub free : WaitsControl r id → ⊥

abbrev pub IsDue : Record → Frame → Type 0
IsDue r (frames.Headers stream ended whole block) = IsDueHeaders r stream ended whole block
IsDue r (frames.Body stream ended bytes counted) = IsDueData r stream ended bytes counted
IsDue r (frames.Reset stream code) = IsDueReset r stream code
IsDue r frame = IsNextControl r frame
