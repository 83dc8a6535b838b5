-- What holds where a connection waits, where it begins to read a frame, and where the client's bytes end.
use Rattle.std.specs.Prelude.{◌≡◌, ◌⊎◌, ℕ, ◌==◌, ◌≤◌, Bool, true, false, ◌&&◌, List, [], ◌∷◌, ◌++◌, map, pos, ◌≤ℤ◌}
use Rattle.std.specs.List.{list_any}
use Rattle.grpc_meta.specs.declared.methods.Method.TheVariants as method
use Rattle.h2_record.specs.Record.{Record}
use Rattle.h2_record.specs.Windows.{send_window_of, connection_window_of}
use Rattle.h2_record.specs.Resets.{resets_of}
use Rattle.h2_record.specs.Control.{written_control_of}
use Rattle.h2_record.specs.Due.{settled_control_of}
use Rattle.h2_record.specs.Texts.{Token, Fields, written_text, written_codes, codes_on}
use Rattle.conn_record.specs.declared.limits.TheConstants.{MOST_BEHIND}
use Rattle.conn_record.specs.Timeline.{Framing}
use Rattle.conn_record.specs.Quiet.{IsSettled}
use Rattle.conn_requests.specs.declared.asks.Ask.{Ask}
use Rattle.conn_requests.specs.declared.asks.Ask.TheVariants as ask
use Rattle.conn_requests.specs.Decided.{Answered, Played, play, item_of}
use Rattle.conn_requests.specs.Spelled.{spelling_on}

-- all that was decided has its answer
abbrev pub IsAnswered : Played → Type 0
IsAnswered p = map item_of p.used ≡ p.decided

-- the rows of a table are read
abbrev pub reads_rows : Ask → Bool
reads_rows (ask.Call method.ReadRows message) = true
reads_rows _ = false

-- such a call was answered on the stream: its answer is given as the windows open
abbrev pub reads_on : (stream : ℕ) → List Answered → Bool
reads_on id answers = list_any (λ x. (id == x.item.stream) && reads_rows x.item.asked) answers

-- All of the text is written but the trailers, and the window of the stream or of the connection is used up.
pub record IsHeldAtEnd (r : Record) (id : ℕ) (text : List Token) : Type 0 where
  pub block : List ℕ
  pub next : written_text r id ++ Fields true block ∷ [] ≡ text
  pub window : (send_window_of r id ≤ℤ pos 0) ⊎ (connection_window_of r ≤ℤ pos 0)

-- What is due and the answers are written, but for what windows and resets hold up. The trailers of an answer that is given
-- as windows open may wait for them too.
pub record IsSaid (r : Record) (used : List Answered) : Type 0 where
  pub control : written_control_of r ≡ settled_control_of r
  pub resets : (id : ℕ) → written_codes r id ≡ codes_on (resets_of r) id
  pub texts : (id : ℕ) → IsSettled r id (spelling_on id used) ⊎ ((reads_on id used ≡ true) × IsHeldAtEnd r id (spelling_on id used))

abbrev pub IsWritten : Played → Type 0
IsWritten p = IsSaid p.marked p.used

-- All that was decided is answered, all that is due is written, and no frame is half written.
pub record IsSilent (s : Framing) (p : Played) : Type 0 where
  pub answered : IsAnswered p
  pub written : IsWritten p
  pub whole : s.outflow ≡ []

-- All that was decided is answered, and no frame is half written. What is due is written, or much was since the latest
-- frame came.
pub record IsReady (s : Framing) (p : Played) : Type 0 where
  pub answered : IsAnswered p
  pub written : IsWritten p ⊎ (MOST_BEHIND ≤ s.since)
  pub whole : s.outflow ≡ []

-- at a place of the log, of these answers those that were given by then
abbrev pub SilentAt : List Answered → Framing → Type 0
SilentAt answers s = IsSilent s (play answers s.frames)

abbrev pub ReadyAt : List Answered → Framing → Type 0
ReadyAt answers s = IsReady s (play answers s.frames)
