-- Which frames are refused whole, by which rule and with which error code: the least rule that a frame breaks.
-- (RFC 9113 sections 4.2 and 6.1 to 6.10; the first two rules, of the preface and of a length, are in Reading.)
use Rattle.std.specs.Prelude.{ℕ, ◌+◌, ◌%◌, ◌==◌, Bool, true, false, not, ◌&&◌, ◌||◌, nat_lt, List, length, Option, Some, None, if◌then◌else◌}
use Rattle.h2_frames.specs.declared.kind.Kind.{Kind}
use Rattle.h2_frames.specs.declared.kind.Kind.TheVariants as kinds
use Rattle.h2_frames.specs.declared.header.Header.{Header}
use Rattle.h2_frames.specs.declared.fault.H2Fault.{H2Fault}
use Rattle.h2_frames.specs.Header.{has_flag, ack}
use Rattle.h2_frames.specs.Content.{front_len, padding_len}

-- PROTOCOL_ERROR and FRAME_SIZE_ERROR (section 7)
abbrev pub protocol_error : ℕ
protocol_error = 1

abbrev pub frame_size_error : ℕ
frame_size_error = 6

-- rule 3: a frame of a stream on stream 0, or a frame of the connection on another
abbrev pub breaks_stream : Kind → (stream : ℕ) → Bool
breaks_stream kinds.Data stream = stream == 0
breaks_stream kinds.Headers stream = stream == 0
breaks_stream kinds.Priority stream = stream == 0
breaks_stream kinds.RstStream stream = stream == 0
breaks_stream kinds.Settings stream = not (stream == 0)
breaks_stream kinds.PushPromise stream = false
breaks_stream kinds.Ping stream = not (stream == 0)
breaks_stream kinds.GoAway stream = not (stream == 0)
breaks_stream kinds.WindowUpdate stream = false
breaks_stream kinds.Continuation stream = stream == 0
breaks_stream (kinds.Unknown byte) stream = false

-- rule 4: a payload of n bytes is no payload of this type, or has no room for the fields before its content
abbrev pub breaks_length : Kind → (flags n : ℕ) → Bool
breaks_length kinds.Data flags n = nat_lt n (front_len kinds.Data flags)
breaks_length kinds.Headers flags n = nat_lt n (front_len kinds.Headers flags)
breaks_length kinds.Priority flags n = not (n == 5)
breaks_length kinds.RstStream flags n = not (n == 4)
breaks_length kinds.Settings flags n = not (n % 6 == 0) || (has_flag flags ack && not (n == 0))
breaks_length kinds.PushPromise flags n = nat_lt n (front_len kinds.PushPromise flags)
breaks_length kinds.Ping flags n = not (n == 8)
breaks_length kinds.GoAway flags n = nat_lt n 8
breaks_length kinds.WindowUpdate flags n = not (n == 4)
breaks_length kinds.Continuation flags n = false
breaks_length (kinds.Unknown byte) flags n = false

-- rule 5: the padding of DATA or HEADERS is longer than what is left
abbrev pub breaks_padding : Kind → (flags : ℕ) → List ℕ → Bool
breaks_padding kinds.Data flags payload = nat_lt (length payload) (front_len kinds.Data flags + padding_len flags payload)
breaks_padding kinds.Headers flags payload = nat_lt (length payload) (front_len kinds.Headers flags + padding_len flags payload)
breaks_padding _ flags payload = false

-- rule 6: a client may not push
abbrev pub breaks_push : Kind → Bool
breaks_push kinds.PushPromise = true
breaks_push _ = false

abbrev pub fault : (code rule : ℕ) → H2Fault
fault code rule = record { code = code; rule = rule }

unfoldable pub fault_in : Header → List ℕ → Option H2Fault
fault_in header payload =
    if breaks_stream header.kind header.stream then Some (fault protocol_error 3)
    else if breaks_length header.kind header.flags (length payload) then Some (fault frame_size_error 4)
    else if breaks_padding header.kind header.flags payload then Some (fault protocol_error 5)
    else if breaks_push header.kind then Some (fault protocol_error 6)
    else None
