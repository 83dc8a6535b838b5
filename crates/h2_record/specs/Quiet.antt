-- What is left to be written where no frame that is due fits a room.
use Rattle.std.specs.Prelude.{◌≡◌, ℕ, ◌≤◌, ◌⊎◌, true, List, [], ◌∷◌, ◌++◌, length, None, pos, ◌≤ℤ◌}
use Rattle.hpack_blocks.specs.declared.fields.Field.{Field}
use Rattle.hpack_blocks.specs.Spelling.{block_spelling}
use Rattle.h2_frames.specs.Header.{max_frame_size}
use Rattle.h2_frames.specs.Sound.{IsFrame}
use Rattle.h2_frames.specs.Spelling.{frame_len}
use Rattle.h2_frames.specs.declared.frame.Frame.{Frame}
use Rattle.h2_record.specs.Record.{Record, AnswerPart, Head, Tail, In, Out, Given, Whole, Broken}
use Rattle.h2_record.specs.Windows.{send_window_of, connection_window_of}
use Rattle.h2_record.specs.Resets.{is_live, resets_of}
use Rattle.h2_record.specs.Faults.{first_fault_of}
use Rattle.h2_record.specs.Control.{written_control_of}
use Rattle.h2_record.specs.Texts.{Token, Octet, given_text, written_text, codes_on, written_codes}
use Rattle.h2_record.specs.Due.{IsDue, settled_control_of}

-- what came are frames, and the blocks of fields that were given fit one, as the first of a connection too
abbrev pub HasShortBlock : AnswerPart → Type 0
HasShortBlock (Head fields end) = length (block_spelling true fields) ≤ max_frame_size
HasShortBlock (Tail fields) = length (block_spelling true fields) ≤ max_frame_size
HasShortBlock _ = Unit {0}

abbrev pub EachFits : Record → Type 0
EachFits [] = Unit {0}
EachFits (In frame ∷ r) = IsFrame frame × EachFits r
EachFits (Given stream part ∷ r) = HasShortBlock part × EachFits r
EachFits (Out frame ∷ r) = EachFits r
EachFits (Whole ∷ r) = EachFits r
EachFits (Broken fault ∷ r) = EachFits r

-- no frame that is due fits
abbrev pub NoneFits : Record → (room : ℕ) → Type 0
NoneFits r room = (frame : Frame) → IsDue r frame → frame_len frame ≤ room → ⊥

-- The next of what was given on a stream is an octet, and the stream's window or the connection's is used up.
pub record IsHeldUp (r : Record) (id : ℕ) : Type 0 where
  pub octet : ℕ
  pub behind : List Token
  pub next : written_text r id ++ Octet octet ∷ behind ≡ given_text r id
  pub window : (send_window_of r id ≤ℤ pos 0) ⊎ (connection_window_of r ≤ℤ pos 0)

-- All control frames are out. Where no connection error was met, all resets are, and on each live stream all that was
-- given is, but for what a window holds up.
pub record IsQuiet (r : Record) : Type 0 where
  pub control : written_control_of r ≡ settled_control_of r
  pub resets : first_fault_of r ≡ None → (id : ℕ) → written_codes r id ≡ codes_on (resets_of r) id
  pub texts : first_fault_of r ≡ None → (id : ℕ) → is_live r id ≡ true → (written_text r id ≡ given_text r id) ⊎ IsHeldUp r id
