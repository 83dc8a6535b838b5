-- A connection stands for a record: what it holds is what the record says.
use Rattle.std.specs.Prelude.{◌≡◌, ℕ, ◌<◌, false, List, [], ◌++◌, map, Option, None, Some}
use Rattle.std.specs.Map.{keys_of}
use Rattle.hpack_blocks.specs.Answers.{Open}
use Rattle.h2_frames.specs.declared.fault.H2Fault.{H2Fault}
use Rattle.h2_streams.specs.Book.{Book, find}
use Rattle.h2_answers.specs.Waiting.{Waiting, waiting_on}
use Rattle.h2_frames.specs.declared.frame.Frame.{Frame}
use Rattle.h2_record.specs.declared.block.OwedCredit.{OwedCredit}
use Rattle.h2_record.specs.Record.{Record, has_begun}
use Rattle.h2_record.specs.Windows.{initial_of, connection_window_of}
use Rattle.h2_record.specs.Ids.{last_of}
use Rattle.h2_record.specs.Blocks.{open_of, table_of}
use Rattle.h2_record.specs.Live.{is_reset, remembered_in}
use Rattle.h2_record.specs.Resets.{resets_of, is_live, stream_of, live_of}
use Rattle.h2_record.specs.Faults.{first_fault_of, flood_of}
use Rattle.h2_record.specs.Credits.{owed_of, kept_of}
use Rattle.h2_record.specs.Control.{control_of, written_control_of, frame_of}
use Rattle.h2_record.specs.Texts.{has_headed}
use Rattle.h2_record.specs.Fresh.{is_spoken}
use Rattle.h2_conn.specs.KeptCredit.{kept_on}
use Rattle.h2_conn.specs.Held.{Held}
use Rattle.h2_conn.specs.Waits.{WaitsBy}

-- the streams, and what waits on them
pub record StreamsStand (streams : Book) (answers : List (ℕ × Waiting)) (r : Record) : Type 0 where
  pub last : streams.last ≡ last_of r
  pub remembered : streams.resets ≡ remembered_in (resets_of r)
  pub found : (id : ℕ) → find streams id ≡ stream_of r id
  pub live : keys_of streams.live ≡ live_of r
  pub waits : (id : ℕ) → WaitsBy (is_live r id) r id (waiting_on answers id)
  -- nothing came, went or was given on an id that isn't begun, and no reset is due on it
  pub fresh : (id : ℕ) → last_of r < id → (is_spoken r id ≡ false) × (is_reset (resets_of r) id ≡ false)

-- The control frames that went and those that wait are `control`; the credit of the latest frame and the kept credit are
-- `owed` and `kept`.
pub record StandsFor (c : Held) (r : Record) (control : List Frame) (owed : Option OwedCredit) (kept : ℕ → ℕ) : Type 0 where
  pub sound : first_fault_of r ≡ None
  pub begun : c.has_begun ≡ has_begun r
  pub window : c.window ≡ connection_window_of r
  pub initial : c.initial ≡ initial_of r
  pub streams : StreamsStand c.streams c.answers r
  pub block : c.block ≡ open_of r
  pub table : c.decoder ≡ Open (table_of r)
  pub controls : written_control_of r ++ map frame_of c.control ≡ control
  pub owing : c.owed ≡ owed
  pub keeping : (id : ℕ) → kept_on c.kept id ≡ kept id
  pub flood : c.flood ≡ flood_of r
  pub headed : c.has_headed ≡ has_headed r

abbrev pub OpenStands : Held → Record → Type 0
OpenStands c r = StandsFor c r (control_of r) (owed_of r) (kept_of r)

-- After a fault nothing waits on any stream; of the rest only this is said: the fault, whether a frame was taken, whether
-- a header block went, and the control frames.
pub record FaultStands (c : Held) (fault : H2Fault) (r : Record) : Type 0 where
  pub met : first_fault_of r ≡ Some fault
  pub begun : c.has_begun ≡ has_begun r
  pub headed : c.has_headed ≡ has_headed r
  pub control : written_control_of r ++ map frame_of c.control ≡ control_of r
  pub waits : c.answers ≡ []

abbrev pub StandsBy : Option H2Fault → Held → Record → Type 0
StandsBy None c r = OpenStands c r
StandsBy (Some fault) c r = FaultStands c fault r

-- Where memory was refused while a frame was taken, a connection stands for nothing.
abbrev pub Stands : Held → Record → Type 0
Stands c r = (c.is_lost ≡ false) × StandsBy c.fault c r
