-- The laws between the spellings of frames, their reading and their writing.
use Rattle.std.specs.Prelude.{◌≡◌, ◌↔◌, ℕ, ◌+◌, false, List, ◌++◌, drop}
use Rattle.h2_frames.specs.declared.frame.Frame.{Frame}
use Rattle.h2_frames.specs.declared.reader.Next.TheVariants as next
use Rattle.h2_frames.specs.Header.{header_of, header_len, has_flag, padded}
use Rattle.h2_frames.specs.Reading.{frame_next}
use Rattle.h2_frames.specs.Spelled.{Spells, IsAllowed}
use Rattle.h2_frames.specs.Framing.{AreFrames, Framed, BeginsWith, BeginsWhole, AnnouncesLarge}
use Rattle.h2_frames.specs.Sound.{IsFrame, IsInRange}
use Rattle.h2_frames.specs.Spelling.{spelling, IsWritable}

-- What is spelled is given, whatever follows.
abbrev pub IsGiven : Type 0
IsGiven = (frame : Frame) (text after : List ℕ) → Spells frame text → IsAllowed text → frame_next (text ++ after) ≡ next.Frame frame

-- Only what is spelled is given.
abbrev pub IsSpelled : Type 0
IsSpelled = (bytes : List ℕ) (frame : Frame) → frame_next bytes ≡ next.Frame frame → BeginsWith frame bytes (drop (header_len + (header_of bytes).length) bytes)

-- More is wanted exactly where no whole frame is there, refused or not, and no payload above 16,384 bytes is announced.
abbrev pub IsMoreExactly : Type 0
IsMoreExactly = (bytes : List ℕ) → (frame_next bytes ≡ next.More) ↔ ((AnnouncesLarge bytes → ⊥) × (BeginsWhole bytes → ⊥))

-- What holds of each frame that is given.
abbrev pub IsSound : Type 0
IsSound = (frame : Frame) (text : List ℕ) → Spells frame text → IsAllowed text → IsFrame frame

-- The writer may be asked for each frame that some bytes without padding spell and that no rule refuses.
abbrev pub IsCondition : Type 0
IsCondition = (frame : Frame) (text : List ℕ) → Spells frame text → IsAllowed text → has_flag (header_of text).flags padded ≡ false → IsWritable frame

-- What is written is a spelling that no rule refuses, so that it is given again.
abbrev pub IsWritten : Type 0
IsWritten = (frame : Frame) → IsWritable frame → IsInRange frame → Spells frame (spelling frame) × IsAllowed (spelling frame)

-- The frames of some bytes, and the rest, are those and no others.
abbrev pub IsOneFraming : Type 0
IsOneFraming = (bytes : List ℕ) (frames others : List Frame) (rest left : List ℕ) → Framed bytes frames rest → Framed bytes others left → (frames ≡ others) × (rest ≡ left)

-- What was read stays read when bytes follow, and reading goes on with the rest.
abbrev pub IsReadOn : Type 0
IsReadOn = (bytes piece : List ℕ) (frames more : List Frame) (rest left : List ℕ) → AreFrames frames bytes rest → Framed (rest ++ piece) more left → Framed (bytes ++ piece) (frames ++ more) left
