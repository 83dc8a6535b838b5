-- Why the server resets a stream at a frame that came (RFC 9113 section 5.4.2): the stream's state, its windows, or a
-- malformed header block.
use Rattle.std.specs.Prelude.{ℕ, ◌==◌, nat_lt, nat_le, Bool, true, false, not, ◌&&◌, ◌||◌, List, length, Option, Some, None, ℤ, pos, ◌+ℤ◌, int_lt, if◌then◌else◌}
use Rattle.hpack_blocks.specs.declared.fields.Field.{Field}
use Rattle.hpack_blocks.specs.Answers.{MAX}
use Rattle.hpack_blocks.specs.Block.{Block}
use Rattle.hpack_blocks.specs.Table.{list_size}
use Rattle.grpc_meta.specs.Fields.{is_good_trailer}
use Rattle.grpc_meta.specs.Request.{is_malformed}
use Rattle.h2_frames.specs.declared.frame.Frame.{Frame}
use Rattle.h2_frames.specs.declared.frame.Frame.TheVariants as frames
use Rattle.h2_flow.specs.Range.{greatest}
use Rattle.h2_streams.specs.declared.stream.StreamState.{StreamState}
use Rattle.h2_streams.specs.declared.stream.StreamState.TheVariants as is
use Rattle.h2_record.specs.declared.block.OpenBlock.{OpenBlock}
use Rattle.h2_record.specs.Record.{Record}
use Rattle.h2_record.specs.Windows.{send_window_of, receive_window_of}
use Rattle.h2_record.specs.Blocks.{whole_block, reading_of}
use Rattle.h2_record.specs.Codes.{protocol_error, flow_control_error, stream_closed, refused_stream}
use Rattle.h2_record.specs.Live.{Reset, is_live_with, state_with, live_with}

-- how many streams may live at once (section 5.1.2)
abbrev pub most_streams : ℕ
most_streams = 100

-- a reset of a stream that lived or is refused, and one of a stream that was closed before
abbrev pub first_reset : (stream code : ℕ) → Option Reset
first_reset stream code = Some (record { stream = stream; code = code; is_first = true })

abbrev pub late_reset : (stream : ℕ) → Option Reset
late_reset stream = Some (record { stream = stream; code = stream_closed; is_first = false })

-- DATA or HEADERS on a closed stream are passed over where the server's reset of it is remembered.
abbrev pub closed_refusal : (stream : ℕ) → (remembered : Bool) → Option Reset
closed_refusal stream remembered = if remembered then None else late_reset stream

-- HEADERS on an id of this state, while so many streams live
abbrev pub headers_refusal : (live stream : ℕ) → StreamState → Option Reset
headers_refusal live stream is.Idle = if nat_lt live most_streams then None else first_reset stream refused_stream
headers_refusal live stream is.Live = None
headers_refusal live stream is.Ended = first_reset stream stream_closed
headers_refusal live stream (is.Closed remembered) = closed_refusal stream remembered

-- DATA of so many bytes, where the stream's receive window is this
abbrev pub body_refusal : (window : ℤ) (stream counted : ℕ) → StreamState → Option Reset
body_refusal window stream counted is.Idle = None
body_refusal window stream counted is.Live = if int_lt window (pos counted) then first_reset stream flow_control_error else None
body_refusal window stream counted is.Ended = first_reset stream stream_closed
body_refusal window stream counted (is.Closed remembered) = closed_refusal stream remembered

-- WINDOW_UPDATE on a live stream (section 6.9)
abbrev pub grant_refusal : (window : ℤ) (stream add : ℕ) → Option Reset
grant_refusal window stream add =
    if add == 0 then first_reset stream protocol_error
    else if int_lt greatest (window +ℤ pos add) then first_reset stream flow_control_error
    else None

-- a stream's state or its windows don't allow the frame
abbrev pub refusal_by : List Reset → Record → Frame → Option Reset
refusal_by resets r (frames.Headers stream end whole fragment) = headers_refusal (length (live_with resets r)) stream (state_with resets r stream)
refusal_by resets r (frames.Body stream end bytes counted) = body_refusal (receive_window_of r stream) stream counted (state_with resets r stream)
refusal_by resets r (frames.Window stream add) = if is_live_with resets r stream then grant_refusal (send_window_of r stream) stream add else None
refusal_by resets r _ = None

-- whether HEADERS on an id of this state belong to a stream that lives on
abbrev pub is_served_state : StreamState → Bool
is_served_state is.Idle = true
is_served_state is.Live = true
is_served_state _ = false

-- whether the block that a frame begins or goes on with is that of a live stream, where the frame isn't refused
abbrev pub is_served : List Reset → Record → Frame → Bool
is_served resets r (frames.Headers stream end whole fragment) = is_served_state (state_with resets r stream)
is_served resets r (frames.Continuation stream whole fragment) = is_live_with resets r stream
is_served resets r _ = false

-- The fields of a request are malformed by the rules of gRPC's calls; a list that is too large isn't looked at. A
-- client's trailers are malformed where a field may not stand there, where the list is too large, and without END_STREAM.
abbrev pub is_malformed_block : OpenBlock → List Field → Bool
is_malformed_block block fields =
    if block.is_late
    then not block.ended || nat_lt MAX (list_size fields) || not (is_good_trailer fields)
    else nat_le (list_size fields) MAX && is_malformed fields

abbrev pub malformed_reading : OpenBlock → Block → Bool
malformed_reading block None = false
malformed_reading block (Some read) = is_malformed_block block read.0

abbrev pub malformed_block : Record → Option OpenBlock → Option Reset
malformed_block r None = None
malformed_block r (Some block) = if malformed_reading block (reading_of r block) then first_reset block.stream protocol_error else None

abbrev pub malformed_by : List Reset → Record → Frame → Option Reset
malformed_by resets r frame = if is_served resets r frame then malformed_block r (whole_block r frame) else None
