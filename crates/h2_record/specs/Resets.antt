-- The streams that the server resets (RFC 9113 section 5.4.2): the rule for one frame is the first that holds here.
use Rattle.std.specs.Prelude.{ℕ, Bool, true, not, ◌&&◌, List, [], ◌∷◌, Option, Some, None, if◌then◌else◌}
use Rattle.std.specs.Option.{option_or}
use Rattle.h2_frames.specs.declared.frame.Frame.{Frame}
use Rattle.h2_frames.specs.declared.frame.Frame.TheVariants as frames
use Rattle.h2_streams.specs.declared.stream.Stream.{Stream}
use Rattle.h2_streams.specs.declared.stream.StreamState.{StreamState}
use Rattle.h2_record.specs.Record.{Record, In, Out, any_in}
use Rattle.h2_record.specs.Codes.{no_error}
use Rattle.h2_record.specs.Live.{Reset, ends, is_live_with, state_with, live_with, stream_with}
use Rattle.h2_record.specs.Refusals.{first_reset, refusal_by, malformed_by}

-- the reset that a frame which came makes due, where it breaks no rule of the connection
unfoldable pub reset_by : List Reset → Record → Frame → Option Reset
reset_by resets r frame = option_or (refusal_by resets r frame) (malformed_by resets r frame)

-- The answer is wholly written and the client hasn't ended (RFC 9113 section 8.1), or the caller's own reset is written.
unfoldable pub reset_behind : List Reset → Record → Frame → Option Reset
reset_behind resets r (frames.Headers stream true whole fragment) =
    if is_live_with resets r stream && not (any_in (ends stream) r) then first_reset stream no_error else None
reset_behind resets r (frames.Reset stream code) = if is_live_with resets r stream then first_reset stream code else None
reset_behind resets r _ = None

abbrev pub with_reset : List Reset → Option Reset → List Reset
with_reset resets None = resets
with_reset resets (Some reset) = reset ∷ resets

-- the resets with those of the latest frame, which came or went
abbrev pub resets_in : List Reset → Record → Frame → List Reset
resets_in resets r frame = with_reset resets (reset_by resets r frame)

abbrev pub resets_out : List Reset → Record → Frame → List Reset
resets_out resets r frame = with_reset resets (reset_behind resets r frame)

-- the server's resets, the latest first; nothing is asked of them behind a connection error
abbrev pub resets_of : Record → List Reset
resets_of [] = []
resets_of (In frame ∷ r) = resets_in (resets_of r) r frame
resets_of (Out frame ∷ r) = resets_out (resets_of r) r frame
resets_of (_ ∷ r) = resets_of r

abbrev pub is_live : Record → ℕ → Bool
is_live r id = is_live_with (resets_of r) r id

abbrev pub stream_of : Record → ℕ → Option Stream
stream_of r id = stream_with (resets_of r) r id

abbrev pub state_of : Record → ℕ → StreamState
state_of r id = state_with (resets_of r) r id

abbrev pub live_of : Record → List ℕ
live_of r = live_with (resets_of r) r

-- live, and the client may still send on it
abbrev pub is_open : Record → ℕ → Bool
is_open r id = is_live r id && not (any_in (ends id) r)
