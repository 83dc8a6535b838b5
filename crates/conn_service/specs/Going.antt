-- What the loop of a connection keeps between two frames. The answers so far are given to the frames so far, whatever
-- answers follow: so nothing that was said of an earlier place of the log has to be said again.
use Rattle.std.specs.Prelude.{◌≡◌, ◌⊎◌, ℕ, Bool, true, List, [], ◌∷◌, ◌++◌, map, All, Option, None, option_map}
use Rattle.links.specs.Told.{more, GoesOn}
use Rattle.links.specs.Link.{Moved}
use Rattle.h2_frames.specs.Held.{Held as ReaderHeld}
use Rattle.h2_record.specs.Faults.{first_fault_of}
use Rattle.h2_record.specs.Written.{EachWasDue}
use Rattle.h2_record.specs.Texts.{Token, Fields, Octet}
use Rattle.open_tables.specs.Tables.{TableView}
use Rattle.conn_record.specs.Timeline.{framing_of, timeline_of, unframed}
use Rattle.conn_record.specs.Places.{HoldsFrom}
use Rattle.conn_record.specs.Sending.{IsOwn}
use Rattle.conn_record.specs.Giving.{EachWasGiven}
use Rattle.conn_deferral.specs.Deferred.{Dealing, Deals}
use Rattle.conn_requests.specs.Decided.{Call, Answered, Played, play, has_answer}
use Rattle.conn_service.specs.Served.{Planning, Served}
use Rattle.conn_service.specs.Quiet.{IsAnswered, reads_on, SilentAt, ReadyAt}
use Rattle.conn_service.specs.Serves.{reading_of, IsInTime, Shown}

-- the same with these answers to come
abbrev pub resumed : Played → List Answered → Played
resumed p answers = record p { later = answers }

-- a call that is kept, and whether something was answered on its stream
pub record Kept : Type 0 where
  pub call : Call
  pub begun : Bool

abbrev pub kept_of : (used : List Answered) → (stream : ℕ) → Option Call → Option Kept
kept_of used id call = option_map (λ c. record { call = c; begun = has_answer used id }) call

-- What is left of an answer that is given as windows open: octets of messages, and the trailers.
pub record EndsInTrailers (left : List Token) : Type 0 where
  pub bytes : List ℕ
  pub block : List ℕ
  pub is : left ≡ map Octet bytes ++ Fields true block ∷ []

-- Something is left of answers to ReadRows alone.
abbrev pub IsLeftOf : Played → (left : ℕ → List Token) → Type 0
IsLeftOf p left = (id : ℕ) → (left id ≡ []) ⊎ ((reads_on id p.used ≡ true) × EndsInTrailers (left id))

pub record Going (plan : Planning) (passes0 passes : List TableView) (old now : Shown) (conn : Dealing) (reader : ReaderHeld) (kept : ℕ → Option Kept) : Type 0 where
  pub log : List Moved
  pub played : Played
  pub moved : now.log ≡ more old.log log
  pub no_fault : now.faults ≡ old.faults
  -- the reader, the connection with what is left to give, and the calls that are kept stand for the log, and nothing that
  -- was produced waits
  pub plays : (later : List Answered) → play (played.used ++ later) (timeline_of log) ≡ resumed played later
  pub held : (framing_of log).inflow ≡ reader
  pub whole : (framing_of log).outflow ≡ []
  pub deals : Deals conn played.marked
  pub left : IsLeftOf played conn.left
  pub calls : (id : ℕ) → kept id ≡ kept_of played.used id (played.calls id)
  pub sound : first_fault_of played.marked ≡ None
  -- all that was decided is answered
  pub answered : IsAnswered played
  pub served : Served plan passes0 played.used passes
  pub timed : GoesOn old.readings (map reading_of played.used) now.readings
  pub in_time : All IsInTime played.used
  -- what was given, and what went
  pub was_open : EachWasGiven played.marked
  pub own : IsOwn log
  pub was_due : EachWasDue played.marked
  pub places : (later : List Answered) → HoldsFrom (SilentAt (played.used ++ later)) (ReadyAt (played.used ++ later)) unframed log
