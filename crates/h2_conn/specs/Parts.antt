-- What a part of an answer that goes leaves.
use Rattle.std.specs.Prelude.{◌≡◌, ℕ, ◌+◌, ◌==◌, Bool, true, false, not, List, [], ◌∷◌, ◌++◌, length, Option, None, Some, pos, ◌-ℤ◌, ◌≤ℤ◌, if◌then◌else◌}
use Rattle.h2_frames.specs.declared.frame.Frame.{Frame}
use Rattle.h2_frames.specs.Spelling.{spelling, IsWritable}
use Rattle.h2_frames.specs.Sound.{IsInRange}
use Rattle.h2_streams.specs.declared.stream.Stream.{Stream}
use Rattle.h2_streams.specs.declared.stream.StreamState.{StreamState}
use Rattle.h2_streams.specs.declared.stream.StreamState.TheVariants as is
use Rattle.h2_streams.specs.Book.{Book, find, state_in, with_stream, without, without_reset}
use Rattle.h2_answers.specs.declared.part.Part.{Part}
use Rattle.h2_answers.specs.declared.part.Part.TheVariants as part
use Rattle.h2_answers.specs.declared.part.Due.{Due}
use Rattle.h2_answers.specs.Waiting.{nothing, ChangesOnly}
use Rattle.h2_answers.specs.Due.{due_frame, waiting_behind}
use Rattle.h2_record.specs.declared.control.Control.TheVariants as control
use Rattle.h2_record.specs.Codes.{no_error}
use Rattle.h2_conn.specs.KeptCredit.{kept_on, KeptOnly}
use Rattle.h2_conn.specs.Latest.{is_free_on}
use Rattle.h2_conn.specs.Held.{Held}
use Rattle.h2_conn.specs.Taking.{Refuses}
use Rattle.h2_conn.specs.Producing.{send_on}

-- the frame of a part
abbrev pub part_frame : Held → Due → Frame
part_frame c due = due_frame (not c.has_headed) c.answers due

-- DATA are within both windows
abbrev pub IsWithinWindows : Held → (id : ℕ) → Part → Type 0
IsWithinWindows c id (part.Body len) = (pos len ≤ℤ send_on c.streams id) × (pos len ≤ℤ c.window)
IsWithinWindows c id _ = Unit {0}

-- It is taken from what waits, and nothing else is seen to.
pub record PartTaken (old : Held) (due : Due) (bytes : List ℕ) (new : Held) : Type 0 where
  pub spelled : bytes ≡ spelling (part_frame old due)
  pub writable : IsWritable (part_frame old due)
  pub in_range : IsInRange (part_frame old due)
  pub answers : ChangesOnly old.answers new.answers due.stream (waiting_behind old.answers due)
  pub rest : new ≡ record old { answers = new.answers; unwritten = old.unwritten + length bytes }

-- A live stream is closed: what waits on it and what is kept of it are dropped.
pub record Closes (old : Held) (id : ℕ) (streams : Book) (new : Held) : Type 0 where
  pub streams_are : new.streams ≡ streams
  pub kept : KeptOnly old.kept new.kept id 0
  pub answers : ChangesOnly old.answers new.answers id nothing
  pub rest : new ≡ record old { streams = new.streams; kept = new.kept; answers = new.answers }

-- The answer is whole: the stream is closed where the client has ended it, and else reset.
abbrev pub FinishesBy : StreamState → (old : Held) (id : ℕ) (new : Held) → Type 0
FinishesBy is.Live old id new = Refuses old id no_error new
FinishesBy is.Ended old id new = Closes old id (without old.streams id) new
FinishesBy _ old id new = new ≡ old

abbrev pub Finishes : (old : Held) (id : ℕ) (new : Held) → Type 0
Finishes old id new = FinishesBy (state_in old.streams id) old id new

-- A reset of a live stream closes it; one of another changes nothing.
abbrev pub ResetsBy : Option Stream → (old : Held) (id : ℕ) (new : Held) → Type 0
ResetsBy None old id new = new ≡ old
ResetsBy (Some stream) old id new = Closes old id (without_reset old.streams id) new

abbrev pub ResetsOf : (old : Held) (id : ℕ) (new : Held) → Type 0
ResetsOf old id new = ResetsBy (find old.streams id) old id new

-- the kept credit of a stream goes once few replies wait
abbrev pub FreesBy : Bool → (sum : ℕ) (old : Held) (id : ℕ) (new : Held) → Type 0
FreesBy true sum old id new = KeptOnly old.kept new.kept id 0 × (new ≡ record old { kept = new.kept; control = old.control ++ control.Credit id sum ∷ [] })
FreesBy false sum old id new = new ≡ old

abbrev pub is_freed : (sum : ℕ) → Held → (id : ℕ) → Bool
is_freed sum c id = if sum == 0 then false else is_free_on c.answers id

abbrev pub Frees : (old : Held) (id : ℕ) (new : Held) → Type 0
Frees old id new = FreesBy (is_freed (kept_on old.kept id) old id) (kept_on old.kept id) old id new

-- DATA are taken from both windows.
abbrev pub spent_stream : Stream → (len : ℕ) → Stream
spent_stream stream len = record stream { send = stream.send -ℤ pos len }

abbrev pub SpendsBy : Option Stream → (old : Held) (id len : ℕ) (new : Held) → Type 0
SpendsBy None old id len new = new ≡ record old { window = old.window -ℤ pos len }
SpendsBy (Some stream) old id len new = Frees (record old { window = old.window -ℤ pos len; streams = with_stream old.streams id (spent_stream stream len) }) id new

abbrev pub Spends : (old : Held) (id len : ℕ) (new : Held) → Type 0
Spends old id len new = SpendsBy (find old.streams id) old id len new

-- what the part leaves behind itself
abbrev pub LeavesPart : Part → (old : Held) (id : ℕ) (new : Held) → Type 0
LeavesPart (part.Head false) old id new = new ≡ record old { has_headed = true }
LeavesPart (part.Head true) old id new = Finishes (record old { has_headed = true }) id new
LeavesPart (part.Body len) old id new = Spends old id len new
LeavesPart part.Tail old id new = Finishes (record old { has_headed = true }) id new
LeavesPart (part.Reset code) old id new = ResetsOf old id new

-- A part goes.
pub record PartGoes (old : Held) (due : Due) (bytes : List ℕ) (new : Held) : Type 0 where
  pub taken : Held
  pub takes : PartTaken old due bytes taken
  pub leaves : LeavesPart due.part taken due.stream new
