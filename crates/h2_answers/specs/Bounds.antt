-- What bounds the next frame of an answer: windows, a control frame of its stream, and room.
use Rattle.std.specs.Prelude.{ℕ, ℤ, Bool}

-- The send windows of the streams and of the connection (RFC 9113 section 6.9.1); on which streams a control frame
-- waits; whether no header block of the connection was written; and how many bytes may be written.
pub record Bounds : Type 0 where
  pub send_window : ℕ → ℤ
  pub is_held : ℕ → Bool
  pub connection : ℤ
  pub first : Bool
  pub room : ℕ

abbrev pub bounds_of : (send_window : ℕ → ℤ) (is_held : ℕ → Bool) (connection : ℤ) (first : Bool) (room : ℕ) → Bounds
bounds_of send_window is_held connection first room = record { send_window = send_window; is_held = is_held; connection = connection; first = first; room = room }
