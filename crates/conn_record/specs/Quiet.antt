-- Where nothing is left to write on a connection, but for what windows hold up.
use Rattle.std.specs.Prelude.{◌≡◌, ℕ, ◌+◌, ◌<◌, ◌≤◌, ◌⊎◌, true, Bool, ◌||◌, List, ◌∷◌, ◌++◌, None, pos, ◌≤ℤ◌}
use Rattle.h2_record.specs.Record.{Record, any_in}
use Rattle.h2_record.specs.Windows.{send_window_of, connection_window_of}
use Rattle.h2_record.specs.Live.{is_reset, cancels}
use Rattle.h2_record.specs.Resets.{resets_of}
use Rattle.h2_record.specs.Faults.{first_fault_of}
use Rattle.h2_record.specs.Control.{written_control_of}
use Rattle.h2_record.specs.Due.{settled_control_of}
use Rattle.h2_record.specs.Texts.{Token, Octet, given_text, written_text, written_codes, codes_on}
use Rattle.conn_record.specs.declared.limits.TheConstants.{LEAST_ROOM, WRITE_ROOM, MOST_BEHIND}
use Rattle.h2_record.specs.Written.{EachWasDue}
use Rattle.h2_record.specs.Quiet.{NoneFits}
use Rattle.conn_record.specs.Marks.{EachIsFrame}
use Rattle.conn_record.specs.Giving.{EachWasGiven}

-- the client or the server reset the stream
abbrev pub is_given_up : Record → ℕ → Bool
is_given_up r id = is_reset (resets_of r) id || any_in (cancels id) r

-- The next of the text is DATA, and the window of the stream or of the connection is used up.
pub record IsHeldUp (r : Record) (id : ℕ) (text : List Token) : Type 0 where
  pub octet : ℕ
  pub behind : List Token
  pub next : written_text r id ++ Octet octet ∷ behind ≡ text
  pub window : (send_window_of r id ≤ℤ pos 0) ⊎ (connection_window_of r ≤ℤ pos 0)

-- The text of a stream is written, or the stream was reset, or a window holds it up.
abbrev pub IsSettled : Record → ℕ → List Token → Type 0
IsSettled r id text = (written_text r id ≡ text) ⊎ ((is_given_up r id ≡ true) ⊎ IsHeldUp r id text)

-- All control frames and resets that are due are written, and so is the text of each stream but where it is held up.
pub record IsQuiet (r : Record) (text_of : ℕ → List Token) : Type 0 where
  pub control : written_control_of r ≡ settled_control_of r
  pub resets : (id : ℕ) → written_codes r id ≡ codes_on (resets_of r) id
  pub texts : (id : ℕ) → IsSettled r id (text_of id)

-- Where no frame that is due fits a room which holds each control frame, reset and header block, the connection is quiet.
abbrev pub RestIsQuiet : Type 0
RestIsQuiet = (r : Record) (text_of : ℕ → List Token) (room : ℕ) → first_fault_of r ≡ None → EachIsFrame r → EachWasDue r → EachWasGiven r → ((id : ℕ) → given_text r id ≡ text_of id)
    → LEAST_ROOM ≤ room → NoneFits r room → IsQuiet r text_of

-- Behind a connection error all control frames that are due are written then, GOAWAY the last of them.
abbrev pub RestIsSaid : Type 0
RestIsSaid = (r : Record) (room : ℕ) → EachIsFrame r → EachWasDue r → LEAST_ROOM ≤ room → NoneFits r room → written_control_of r ≡ settled_control_of r

-- Where less than that is left of a buffer, enough of it is filled.
abbrev pub FullIsMuch : Type 0
FullIsMuch = (used left : ℕ) → used + left ≡ WRITE_ROOM → left < LEAST_ROOM → MOST_BEHIND ≤ used
