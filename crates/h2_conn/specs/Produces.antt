-- What a call gives to be written: a whole frame that is due and fits, or nothing where there is none.
use Rattle.std.specs.Prelude.{◌≡◌, ℕ, ◌+◌, ◌≤◌, Bool, true, false, List, ◌∷◌, length}
use Rattle.h2_frames.specs.declared.frame.Frame.{Frame}
use Rattle.h2_frames.specs.Spelling.{spelling, IsWritable, frame_len}
use Rattle.h2_frames.specs.Sound.{IsInRange}
use Rattle.h2_record.specs.Record.{Record, Out}
use Rattle.h2_record.specs.Due.{IsDue, IsLongest}
use Rattle.h2_conn.specs.Appended.{Appended}
use Rattle.h2_conn.specs.Held.{Held}
use Rattle.h2_conn.specs.Stands.{Stands}

-- A whole frame goes, which is due and fits.
pub record Goes (old : Held) (room : ℕ) (bytes : List ℕ) (new : Held) : Type 0 where
  pub frame : Frame
  pub spelled : bytes ≡ spelling frame
  pub writable : IsWritable frame
  pub in_range : IsInRange frame
  pub fits : length bytes ≤ room
  pub counted : new.unwritten ≡ old.unwritten + length bytes
  pub due : (r : Record) → Stands old r → IsDue r frame
  pub longest : (r : Record) → Stands old r → IsLongest r room frame
  pub stands : (r : Record) → Stands old r → Stands new (Out frame ∷ r)

-- Nothing goes, since no frame that is due fits.
pub record Rests (old : Held) (room : ℕ) (new : Held) : Type 0 where
  pub same : new ≡ old
  pub none : (r : Record) → Stands old r → (frame : Frame) → IsDue r frame → frame_len frame ≤ room → ⊥

-- A call that appends to a buffer gives the frame, or nothing.
abbrev pub ProducesInto : (old : Held) (room : ℕ) → Bool → (before after : List ℕ) (new : Held) → Type 0
ProducesInto old room true before after new = Appended before after (λ bytes. Goes old room bytes new)
ProducesInto old room false before after new = Rests old room new × (after ≡ before)
