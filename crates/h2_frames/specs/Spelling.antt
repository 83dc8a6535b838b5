-- The server's own spelling of a frame, without padding (RFC 9113 sections 4.1 and 6).
use Rattle.std.specs.Prelude.{ℕ, ◌+◌, Bool, List, [], ◌∷◌, ◌++◌, length, if◌then◌else◌}
use Rattle.std.specs.List.{flat_map}
use Rattle.wire_bytes.specs.Number.{bytes_of}
use Rattle.h2_frames.specs.declared.kind.Kind.{Kind}
use Rattle.h2_frames.specs.declared.kind.Kind.TheVariants as kinds
use Rattle.h2_frames.specs.declared.header.Header.{Header}
use Rattle.h2_frames.specs.declared.frame.Frame.{Frame}
use Rattle.h2_frames.specs.declared.frame.Frame.TheVariants as frames
use Rattle.h2_frames.specs.declared.pairs.Pair.{Pair}
use Rattle.h2_frames.specs.Sound.{IsFrame, IsUnpadded}
use Rattle.h2_frames.specs.Header.{end_stream, ack, end_headers}

abbrev pub kind_byte : Kind → ℕ
kind_byte kinds.Data = 0
kind_byte kinds.Headers = 1
kind_byte kinds.Priority = 2
kind_byte kinds.RstStream = 3
kind_byte kinds.Settings = 4
kind_byte kinds.PushPromise = 5
kind_byte kinds.Ping = 6
kind_byte kinds.GoAway = 7
kind_byte kinds.WindowUpdate = 8
kind_byte kinds.Continuation = 9
kind_byte (kinds.Unknown byte) = byte

-- the nine bytes before a payload
abbrev pub header_bytes : Header → List ℕ
header_bytes header = bytes_of 3 header.length ++ kind_byte header.kind ∷ header.flags ∷ bytes_of 4 header.stream

-- the payload behind its nine bytes
abbrev pub frame_bytes : Kind → (flags stream : ℕ) → List ℕ → List ℕ
frame_bytes kind flags stream payload = header_bytes (record { length = length payload; kind = kind; flags = flags; stream = stream }) ++ payload

abbrev pub flag_if : Bool → ℕ → ℕ
flag_if set flag = if set then flag else 0

abbrev pub pair_bytes : Pair → List ℕ
pair_bytes pair = bytes_of 2 pair.id ++ bytes_of 4 pair.value

-- no exclusive bit, a dependency on stream 0, and a weight of 16, as where no priority was sent
abbrev pub default_priority : List ℕ
default_priority = 0 ∷ 0 ∷ 0 ∷ 0 ∷ 15 ∷ []

-- PUSH_PROMISE is here for completeness; none is written
unfoldable pub spelling : Frame → List ℕ
spelling (frames.Body stream end bytes counted) = frame_bytes kinds.Data (flag_if end end_stream) stream bytes
spelling (frames.Headers stream end whole block) = frame_bytes kinds.Headers (flag_if end end_stream + flag_if whole end_headers) stream block
spelling (frames.Priority stream) = frame_bytes kinds.Priority 0 stream default_priority
spelling (frames.Reset stream code) = frame_bytes kinds.RstStream 0 stream (bytes_of 4 code)
spelling (frames.Settings acked pairs) = frame_bytes kinds.Settings (flag_if acked ack) 0 (flat_map pair_bytes pairs)
spelling (frames.Push stream) = frame_bytes kinds.PushPromise 0 stream []
spelling (frames.Ping acked octets) = frame_bytes kinds.Ping (flag_if acked ack) 0 octets
spelling (frames.Goaway last code) = frame_bytes kinds.GoAway 0 0 (bytes_of 4 last ++ bytes_of 4 code)
spelling (frames.Window stream add) = frame_bytes kinds.WindowUpdate 0 stream (bytes_of 4 add)
spelling (frames.Continuation stream whole block) = frame_bytes kinds.Continuation (flag_if whole end_headers) stream block
spelling (frames.Unknown kind stream) = frame_bytes (kinds.Unknown kind) 0 stream []

-- Frames that some bytes without padding spell, with a payload of at most 16,384 bytes, and that no rule refuses.
abbrev pub IsWritable : Frame → Type 0
IsWritable frame = IsFrame frame × IsUnpadded frame

-- the bytes of a frame that is written
abbrev pub frame_len : Frame → ℕ
frame_len frame = length (spelling frame)
