-- What a call gives to be written within a room: frame after frame, until none that is due fits what is left of it.
use Rattle.std.specs.Prelude.{◌≡◌, ℕ, ◌+◌, ◌-◌, ◌≤◌, List, [], ◌∷◌, length}
use Rattle.std.specs.List.{flat_map, AllByRecursion}
use Rattle.h2_frames.specs.declared.frame.Frame.{Frame}
use Rattle.h2_frames.specs.Spelling.{spelling, IsWritable, frame_len}
use Rattle.h2_frames.specs.Sound.{IsInRange}
use Rattle.h2_record.specs.Record.{Record, Out}
use Rattle.h2_record.specs.Due.{IsDue, IsLongest}
use Rattle.h2_record.specs.Quiet.{NoneFits}
use Rattle.h2_conn.specs.Held.{Held}
use Rattle.h2_conn.specs.Stands.{Stands}

-- the record once these frames went, in their order
abbrev pub with_out : Record → List Frame → Record
with_out r [] = r
with_out r (frame ∷ frames) = with_out (Out frame ∷ r) frames

-- Each is due where it goes, and carries as much as what is left of the room lets it.
abbrev pub AreDue : Record → (room : ℕ) → List Frame → Type 0
AreDue r room [] = Unit {0}
AreDue r room (frame ∷ frames) = IsDue r frame × IsLongest r room frame × AreDue (Out frame ∷ r) (room - frame_len frame) frames

-- its spelling is read as the frame again
pub record IsReadBack (frame : Frame) : Type 0 where
  pub writable : IsWritable frame
  pub in_range : IsInRange frame

-- Whole frames go, all within the room.
pub record Sends (old : Held) (room : ℕ) (frames : List Frame) (bytes : List ℕ) : Type 0 where
  pub spelled : bytes ≡ flat_map spelling frames
  pub each : AllByRecursion IsReadBack frames
  pub fits : length bytes ≤ room
  pub due : (r : Record) → Stands old r → AreDue r room frames

-- frames that went before memory was refused
pub record SendsSome (old : Held) (room : ℕ) (bytes : List ℕ) : Type 0 where
  pub frames : List Frame
  pub sent : Sends old room frames bytes

-- All that go: no further frame that is due fits what is left of the room.
pub record Fills (old : Held) (room : ℕ) (bytes : List ℕ) (new : Held) : Type 0 where
  pub frames : List Frame
  pub sent : Sends old room frames bytes
  pub counted : new.unwritten ≡ old.unwritten + length bytes
  pub stands : (r : Record) → Stands old r → Stands new (with_out r frames)
  pub same : frames ≡ [] → new ≡ old
  pub none : (r : Record) → Stands old r → NoneFits (with_out r frames) (room - length bytes)
