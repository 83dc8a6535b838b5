-- What goes next, and what a control frame leaves.
use Rattle.std.specs.Prelude.{◌≡◌, ℕ, ◌+◌, ◌<◌, ◌≤◌, ◌==◌, ◌⊎◌, Bool, true, false, not, List, [], ◌∷◌, ◌++◌, length, Option, None, Some, option_to_list, option_map, unwrap_or, ℤ, pos, ◌+ℤ◌, ◌≤ℤ◌, ◌<ℤ◌}
use Rattle.std.specs.List.{list_any}
use Rattle.h2_frames.specs.Spelling.{spelling, IsWritable, frame_len}
use Rattle.h2_frames.specs.Sound.{IsInRange}
use Rattle.h2_flow.specs.Range.{greatest}
use Rattle.h2_streams.specs.declared.stream.Stream.{Stream}
use Rattle.h2_streams.specs.Book.{Book, find, with_stream}
use Rattle.h2_answers.specs.Bounds.{Bounds, bounds_of}
use Rattle.h2_answers.specs.Due.{IsNextDue}
use Rattle.h2_record.specs.declared.control.Control.{Control}
use Rattle.h2_record.specs.declared.control.Control.TheVariants as control
use Rattle.h2_conn.specs.declared.next.Next.{Next}
use Rattle.h2_conn.specs.declared.next.Next.TheVariants as next
use Rattle.h2_record.specs.Control.{frame_of}
use Rattle.h2_conn.specs.Latest.{latest_credit}
use Rattle.h2_conn.specs.Held.{Held}

-- the control frames that wait, the credit of the latest frame among them
abbrev pub waiting_control : Held → List Control
waiting_control c = c.control ++ option_to_list (latest_credit c)

abbrev pub first_of : List Control → Option Control
first_of [] = None
first_of (x ∷ xs) = Some x

-- WINDOW_UPDATE on the stream
abbrev pub is_credit_on : ℕ → Control → Bool
is_credit_on id (control.Credit stream add) = id == stream
is_credit_on id _ = false

-- how much may be sent on a stream; nothing where it doesn't live
abbrev pub send_on : Book → ℕ → ℤ
send_on book id = unwrap_or (option_map (λ stream. stream.send) (find book id)) (pos 0)

-- a control frame of the stream waits
abbrev pub is_held_by : List Control → ℕ → Bool
is_held_by waiting id = list_any (is_credit_on id) waiting

abbrev pub bounds_in : Held → (room : ℕ) → Bounds
bounds_in c room = bounds_of (send_on c.streams) (is_held_by (waiting_control c)) c.window (not c.has_headed) room

abbrev pub IsTooLong : Option Control → (room : ℕ) → Type 0
IsTooLong None room = Unit {0}
IsTooLong (Some x) room = room < frame_len (frame_of x)

-- there is one, and it fits
abbrev pub IsShort : Option Control → (room : ℕ) → Type 0
IsShort None room = ⊥
IsShort (Some x) room = frame_len (frame_of x) ≤ room

abbrev pub FitsTo : Option Control → (room : ℕ) → Bool → Type 0
FitsTo first room true = IsShort first room
FitsTo first room false = IsTooLong first room

-- Control frames go first. While SETTINGS wait nothing else goes.
abbrev pub IsNextIn : Held → (room : ℕ) → Next → Type 0
IsNextIn c room next.Control = (x : Control) × (first_of (waiting_control c) ≡ Some x) × (frame_len (frame_of x) ≤ room)
IsNextIn c room (next.Part due) = (first_of (waiting_control c) ≡ Some control.Settings → ⊥) × IsNextDue (bounds_in c room) c.answers (Some due)
IsNextIn c room next.Nothing = IsTooLong (first_of (waiting_control c)) room × ((first_of (waiting_control c) ≡ Some control.Settings) ⊎ IsNextDue (bounds_in c room) c.answers None)

-- ---- a control frame

-- WINDOW_UPDATE on a live stream lets more come on it, where its window can hold it; on another it changes nothing.
abbrev pub CreditedBy : Option Stream → (old : Book) (stream add : ℕ) (new : Book) → Type 0
CreditedBy None old stream add new = new ≡ old
CreditedBy (Some s) old stream add new =
    (((s.receive +ℤ pos add) ≤ℤ greatest) × (new ≡ with_stream old stream (record s { receive = s.receive +ℤ pos add }))) ⊎ ((greatest <ℤ (s.receive +ℤ pos add)) × (new ≡ old))

abbrev pub Credited : (old : Book) (stream add : ℕ) (new : Book) → Type 0
Credited old stream add new = CreditedBy (find old stream) old stream add new

-- what a control frame leaves of the streams
abbrev pub Leaves : Control → (old new : Book) → Type 0
Leaves (control.Credit stream add) old new = Credited old stream add new
Leaves _ old new = new ≡ old

-- The first of those that wait goes.
pub record ControlGoes (old : Held) (bytes : List ℕ) (new : Held) : Type 0 where
  pub control : Control
  pub behind : List Control
  pub first : old.control ≡ control ∷ behind
  pub spelled : bytes ≡ spelling (frame_of control)
  pub writable : IsWritable (frame_of control)
  pub in_range : IsInRange (frame_of control)
  pub leaves : Leaves control old.streams new.streams
  pub rest : new ≡ record old { streams = new.streams; control = behind; unwritten = old.unwritten + length bytes }
