-- The steps between a frame's coming and the connection that has it.
use Rattle.std.specs.Prelude.{◌≡◌, ℕ, true, List, [], ◌∷◌, ◌++◌, map, Option, None, Some, option_to_list}
use Rattle.h2_frames.specs.declared.frame.Frame.{Frame}
use Rattle.h2_frames.specs.declared.frame.Frame.TheVariants as frames
use Rattle.h2_frames.specs.declared.pairs.Pair.{Pair}
use Rattle.h2_frames.specs.declared.fault.H2Fault.{H2Fault}
use Rattle.h2_record.specs.declared.event.Event.{Event}
use Rattle.h2_conn.specs.declared.taken.Taken.{Taken}
use Rattle.h2_conn.specs.declared.taken.Taken.TheVariants as taken
use Rattle.h2_record.specs.Record.{Record, In}
use Rattle.h2_record.specs.Ids.{last_of}
use Rattle.h2_record.specs.Resets.{reset_by, resets_of}
use Rattle.h2_record.specs.Faults.{fault_by}
use Rattle.h2_record.specs.Control.{written_control_of, frame_of}
use Rattle.h2_record.specs.Events.{event_by, events_of}
use Rattle.h2_streams.specs.Book.{without_reset}
use Rattle.h2_answers.specs.Waiting.{nothing, ChangesOnly}
use Rattle.h2_conn.specs.KeptCredit.{KeptOnly}
use Rattle.h2_conn.specs.Held.{Held}
use Rattle.h2_conn.specs.Stands.{StandsFor, OpenStands, StandsBy}
use Rattle.h2_record.specs.Early.{early_fault}
use Rattle.h2_record.specs.Settling.{settled_control, settled_kept}
use Rattle.h2_record.specs.Texts.{has_headed}

-- the credit of the latest frame is given or kept
abbrev pub Settled : Held → Record → Type 0
Settled c r = StandsFor c r (settled_control r) None (settled_kept r)

abbrev pub early_of : Held → Frame → Option H2Fault
early_of c frame = early_fault c.has_begun c.block c.streams.last frame

-- The frame breaks the rule, and this is what is left of the connection that it ends.
pub record Fails (r : Record) (frame : Frame) (fault : H2Fault) (c : Held) : Type 0 where
  pub breaks : fault_by r frame ≡ Some fault
  pub controls : written_control_of r ++ map frame_of c.control ≡ settled_control r
  pub last : c.streams.last ≡ last_of r
  pub headed : c.has_headed ≡ has_headed r

-- The frame breaks no rule, tells this, and the connection has it.
pub record Takes (r : Record) (frame : Frame) (event : Option Event) (c : Held) : Type 0 where
  pub breaks : fault_by r frame ≡ None
  pub tells : event_by r frame (reset_by (resets_of r) r frame) ≡ event
  pub stands : OpenStands c (In frame ∷ r)

abbrev pub Took : Record → Frame → Taken → Held → Type 0
Took r frame (taken.Breaks fault) c = Fails r frame fault c
Took r frame taken.Passes c = Takes r frame None c
Took r frame (taken.Tells event) c = Takes r frame (Some event) c

-- what a frame that no early rule refuses does
abbrev pub Taking : (old : Held) → Frame → Taken → (new : Held) → Type 0
Taking old frame taken new = (r : Record) → Settled old r → Took r frame taken new

-- the frames that are passed over: PRIORITY, GOAWAY, unknown types, and what has ACK
pub data IsPassed : Frame → Type 0 where
  IsPriority : (stream : ℕ) → IsPassed (frames.Priority stream)
  IsAcked : (pairs : List Pair) → IsPassed (frames.Settings true pairs)
  IsPingAcked : (octets : List ℕ) → IsPassed (frames.Ping true octets)
  IsGoaway : (last code : ℕ) → IsPassed (frames.Goaway last code)
  IsUnknown : (kind stream : ℕ) → IsPassed (frames.Unknown kind stream)

-- The server resets a live stream: what waits on it and what is kept of it are dropped.
pub record Refuses (old : Held) (id code : ℕ) (new : Held) : Type 0 where
  pub streams : new.streams ≡ without_reset old.streams id
  pub kept : KeptOnly old.kept new.kept id 0
  pub answers : ChangesOnly old.answers new.answers id (record nothing { resets = code ∷ [] })
  pub rest : new ≡ record old { streams = new.streams; kept = new.kept; answers = new.answers }

-- what a frame does to a connection that met no error before
pub record Follows (r : Record) (frame : Frame) (event : Option Event) (c : Held) : Type 0 where
  pub stands : StandsBy c.fault c (In frame ∷ r)
  pub tells : option_to_list event ≡ events_of r frame
