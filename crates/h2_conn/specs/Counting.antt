-- A frame that is counted, and whose answers are queued, on its way to its stream.
use Rattle.std.specs.Prelude.{◌≡◌, ℕ, ◌==◌, Bool, true, List, [], ◌∷◌, ◌++◌, map, Option, None, Some, if◌then◌else◌}
use Rattle.h2_frames.specs.declared.frame.Frame.{Frame}
use Rattle.h2_frames.specs.declared.frame.Frame.TheVariants as frames
use Rattle.h2_record.specs.declared.block.OpenBlock.{OpenBlock}
use Rattle.h2_record.specs.declared.block.OwedCredit.{OwedCredit}
use Rattle.h2_record.specs.declared.control.Control.{Control}
use Rattle.h2_record.specs.declared.control.Control.TheVariants as control
use Rattle.h2_conn.specs.declared.taken.Taken.{Taken}
use Rattle.h2_record.specs.Codes.{stream_closed}
use Rattle.h2_record.specs.Record.{Record, In}
use Rattle.h2_record.specs.Windows.{initial_of, connection_window_of}
use Rattle.h2_record.specs.Faults.{fault_by, first_fault_of, flood_of}
use Rattle.h2_record.specs.Blocks.{open_of, table_of, whole_block}
use Rattle.hpack_blocks.specs.Answers.{Open}
use Rattle.h2_record.specs.Control.{control_of, written_control_of, frame_of}
use Rattle.h2_answers.specs.Waiting.{with_reset, waiting_on, ChangesOnly}
use Rattle.h2_conn.specs.declared.whole_block.BlockTold.{BlockTold}
use Rattle.h2_conn.specs.WholeBlock.{Tells}
use Rattle.h2_conn.specs.KeptCredit.{kept_on}
use Rattle.h2_record.specs.Texts.{has_headed}
use Rattle.h2_conn.specs.Held.{Held}
use Rattle.h2_conn.specs.Stands.{StreamsStand}
use Rattle.h2_record.specs.Settling.{settled_kept}
use Rattle.h2_conn.specs.Taking.{Took}

-- the credit that a payload gives the connection
abbrev pub payload_credit : (counted : ℕ) → List Control
payload_credit counted = if counted == 0 then [] else control.Credit 0 counted ∷ []

-- A connection that has counted a frame, which breaks no rule, and has queued what it answers, but hasn't yet seen to
-- its stream.
pub record Counted (c : Held) (r : Record) (frame : Frame) : Type 0 where
  pub sound : first_fault_of r ≡ None
  pub breaks : fault_by r frame ≡ None
  pub begun : c.has_begun ≡ true
  pub window : c.window ≡ connection_window_of r
  pub initial : c.initial ≡ initial_of r
  pub streams : StreamsStand c.streams c.answers r
  pub controls : written_control_of r ++ map frame_of c.control ≡ control_of (In frame ∷ r)
  pub keeping : (id : ℕ) → kept_on c.kept id ≡ settled_kept r id
  pub flood : c.flood ≡ flood_of (In frame ∷ r)
  pub headed : c.has_headed ≡ has_headed r

-- What a frame does to the streams, where DATA speak of no header block.
pub record CountedBody (c : Held) (r : Record) (frame : Frame) : Type 0 where
  pub counted : Counted c r frame
  pub owing : c.owed ≡ None
  pub block : c.block ≡ open_of r
  pub table : c.decoder ≡ Open (table_of r)

abbrev pub BodyStep : (old : Held) → Frame → Taken → (new : Held) → Type 0
BodyStep old frame taken new = (r : Record) → CountedBody old r frame → Took r frame taken new

-- the credit that taken DATA give the stream
abbrev pub owed_if : (stream counted : ℕ) → Option OwedCredit
owed_if stream counted = if counted == 0 then None else Some (record { stream = stream; bytes = counted })

-- The same of a frame that begins or goes on with a header block: the block and the table are behind it already.
pub record CountedBlock (c : Held) (r : Record) (frame : Frame) : Type 0 where
  pub counted : Counted c r frame
  pub owing : c.owed ≡ None
  pub block : c.block ≡ open_of (In frame ∷ r)
  pub table : c.decoder ≡ Open (table_of (In frame ∷ r))

-- what HEADERS do to the streams, given what their block tells
abbrev pub HeadersStep : (old : Held) (stream : ℕ) (ended : Bool) → Option BlockTold → Taken → (new : Held) → Type 0
HeadersStep old stream ended heard taken new = (r : Record) (whole : Bool) (fragment : List ℕ) → CountedBlock old r (frames.Headers stream ended whole fragment)
    → Tells r (frames.Headers stream ended whole fragment) heard → Took r (frames.Headers stream ended whole fragment) taken new

-- The server resets a stream that was closed before.
pub record RefusesLate (old : Held) (id : ℕ) (new : Held) : Type 0 where
  pub answers : ChangesOnly old.answers new.answers id (with_reset (waiting_on old.answers id) stream_closed)
  pub rest : new ≡ record old { answers = new.answers }

-- what CONTINUATION does that makes a block whole, given what that tells
abbrev pub ContinuationStep : (old : Held) (stream : ℕ) (is_late : Bool) → BlockTold → Taken → (new : Held) → Type 0
ContinuationStep old stream is_late heard taken new = (r : Record) (fragment : List ℕ) (block : OpenBlock) → CountedBlock old r (frames.Continuation stream true fragment)
    → Tells r (frames.Continuation stream true fragment) (Some heard) → whole_block r (frames.Continuation stream true fragment) ≡ Some block → block.stream ≡ stream → block.is_late ≡ is_late
    → Took r (frames.Continuation stream true fragment) taken new
