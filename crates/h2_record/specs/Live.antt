-- Which streams live, and the state of each id (RFC 9113 section 5.1).
use Rattle.std.specs.Prelude.{ℕ, ◌%◌, ◌==◌, nat_eq, nat_lt, Bool, false, not, ◌&&◌, ◌||◌, List, [], ◌∷◌, filter, Option, Some, None, if◌then◌else◌}
use Rattle.std.specs.List.{list_any}
use Rattle.h2_frames.specs.declared.frame.Frame.{Frame}
use Rattle.h2_frames.specs.declared.frame.Frame.TheVariants as frames
use Rattle.h2_streams.specs.declared.stream.Stream.{Stream}
use Rattle.h2_streams.specs.declared.stream.StreamState.{StreamState}
use Rattle.h2_streams.specs.declared.stream.StreamState.TheVariants as is
use Rattle.h2_streams.specs.Book.{begun_state, remembering}
use Rattle.h2_record.specs.Record.{Record, any_in, any_out}
use Rattle.h2_record.specs.Windows.{send_window_of, receive_window_of}
use Rattle.h2_record.specs.Ids.{last_of, begun_of}

-- the server resets a stream
pub record Reset : Type 0 where
  pub stream : ℕ
  -- the error code of section 7
  pub code : ℕ
  -- The stream lived or was refused, so that the id is remembered. DATA and HEADERS on a stream that was closed before
  -- are answered by a reset that isn't.
  pub is_first : Bool

-- HEADERS on the id
abbrev pub opens : ℕ → Frame → Bool
opens id (frames.Headers stream end whole fragment) = id == stream
opens id _ = false

-- RST_STREAM on the id
abbrev pub cancels : ℕ → Frame → Bool
cancels id (frames.Reset stream code) = id == stream
cancels id _ = false

-- END_STREAM on the id
abbrev pub ends : ℕ → Frame → Bool
ends id (frames.Body stream end bytes counted) = end && id == stream
ends id (frames.Headers stream end whole fragment) = end && id == stream
ends id _ = false

abbrev pub is_reset : List Reset → ℕ → Bool
is_reset resets id = list_any (λ reset. id == reset.stream) resets

-- HEADERS that end the answer on the id: its trailers, or all of it
abbrev pub finishes : ℕ → Frame → Bool
finishes id (frames.Headers stream end whole fragment) = end && id == stream
finishes id _ = false

-- A stream lives from the HEADERS that open it until one side resets it, or both have ended it. `resets` are those by
-- the server.
unfoldable pub is_live_with : List Reset → Record → ℕ → Bool
is_live_with resets r id =
    any_in (opens id) r && not (0 == id) && not (is_reset resets id) && not (any_in (cancels id) r) && not (any_in (ends id) r && any_out (finishes id) r)

-- what is known of a live stream
abbrev pub entry_of : Record → ℕ → Stream
entry_of r id = record { send = send_window_of r id; receive = receive_window_of r id; ended = any_in (ends id) r; answered = any_out (finishes id) r }

abbrev pub stream_with : List Reset → Record → ℕ → Option Stream
stream_with resets r id = if is_live_with resets r id then Some (entry_of r id) else None

-- the last 128 ids that the server reset, the latest last
abbrev pub remembered_in : List Reset → List ℕ
remembered_in [] = []
remembered_in (reset ∷ resets) = if reset.is_first then remembering (remembered_in resets) reset.stream else remembered_in resets

-- an even id, or one above the last that was begun
abbrev pub is_idle_above : (last : ℕ) → ℕ → Bool
is_idle_above last id = (id % 2 == 0) || nat_lt last id

abbrev pub is_idle : Record → ℕ → Bool
is_idle r id = is_idle_above (last_of r) id

abbrev pub state_with : List Reset → Record → ℕ → StreamState
state_with resets r id = if is_idle r id then is.Idle else begun_state (stream_with resets r id) (list_any (nat_eq id) (remembered_in resets))

-- the live streams in the order of opening
abbrev pub live_with : List Reset → Record → List ℕ
live_with resets r = filter (is_live_with resets r) (begun_of r)
