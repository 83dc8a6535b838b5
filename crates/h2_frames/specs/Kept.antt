-- How a reader keeps the bytes that it holds: in two parts, the preface or the header so far, and the payload so far.
use Rattle.std.specs.Prelude.{◌≡◌, ℕ, ◌<◌, ◌≤◌, Bool, true, false, List, length}
use Rattle.h2_frames.specs.Header.{header_of, header_len}
use Rattle.h2_frames.specs.Held.{preface_len}

pub record IsKept (started : Bool) (front payload : List ℕ) : Type 0 where
  pub header_first : 0 < length payload → length front ≡ header_len
  pub preface_first : 0 < length payload → started ≡ true
  pub preface_alone : started ≡ false → length front ≤ preface_len
  pub header_alone : started ≡ true → length front ≤ header_len
  pub one_frame : started ≡ true → length front ≡ header_len → length payload ≤ (header_of front).length
