-- The frames of a stream (RFC 9113 section 4.1).
use Rattle.std.specs.Prelude.{◌≡◌, ℕ, ◌+◌, ◌<◌, ◌≤◌, List, [], ◌∷◌, ◌++◌, length}
use Rattle.h2_frames.specs.declared.frame.Frame.{Frame}
use Rattle.h2_frames.specs.Header.{header_of, header_len, max_frame_size}
use Rattle.h2_frames.specs.Spelled.{Spells, IsAllowed}

-- the bytes are spellings of these frames, one after the other, and then the rest
abbrev pub AreFrames : List Frame → (bytes rest : List ℕ) → Type 0
AreFrames [] bytes rest = bytes ≡ rest
AreFrames (frame ∷ frames) bytes rest =
    (text after : List ℕ) × (bytes ≡ text ++ after) × Spells frame text × IsAllowed text × AreFrames frames after rest

-- no front of the bytes is a whole frame that no rule refuses
abbrev pub BeginsNoFrame : List ℕ → Type 0
BeginsNoFrame bytes = (frame : Frame) (text after : List ℕ) → bytes ≡ text ++ after → Spells frame text → IsAllowed text → ⊥

-- the bytes after the preface are these frames, and a rest that holds no whole one
pub record Framed (bytes : List ℕ) (frames : List Frame) (rest : List ℕ) : Type 0 where
  pub whole : AreFrames frames bytes rest
  pub ends : BeginsNoFrame rest

-- what is given is spelled by the bytes that are held no more
abbrev pub BeginsWith : Frame → (bytes rest : List ℕ) → Type 0
BeginsWith frame bytes rest = (text : List ℕ) × (bytes ≡ text ++ rest) × Spells frame text × IsAllowed text

-- the bytes announce a payload above 16,384 bytes
pub record AnnouncesLarge (bytes : List ℕ) : Type 0 where
  pub header : header_len ≤ length bytes
  pub large : max_frame_size < (header_of bytes).length

-- a front of the bytes is a header with all of its payload, whatever it spells
pub record BeginsWhole (bytes : List ℕ) : Type 0 where
  pub header : header_len ≤ length bytes
  pub payload : header_len + (header_of bytes).length ≤ length bytes
