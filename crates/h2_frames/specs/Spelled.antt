-- Each way to spell a frame: its header, and a payload by the frame's type, in the order of RFC 9113 section 6.
-- Padding, priority fields, reserved bits, unknown flags, debug data and the payloads of unknown types are free.
use Rattle.std.specs.Prelude.{◌≡◌, ℕ, ◌+◌, ◌≤◌, List, ◌++◌, length, drop, None}
use Rattle.wire_bytes.specs.Number.{number_of}
use Rattle.h2_frames.specs.declared.kind.Kind.TheVariants as kinds
use Rattle.h2_frames.specs.declared.header.Header.{Header}
use Rattle.h2_frames.specs.declared.frame.Frame.{Frame}
use Rattle.h2_frames.specs.declared.frame.Frame.TheVariants as frames
use Rattle.h2_frames.specs.Header.{end_stream, ack, end_headers, has_flag, number31_of, header_of, header_len, max_frame_size}
use Rattle.h2_frames.specs.Content.{pad_length_len, priority_len, padding_len}
use Rattle.h2_frames.specs.Fault.{fault_in}
use Rattle.h2_frames.specs.Frame.{pairs_of}

-- The content stands behind the pad length and the other fields, and before the padding. The pad length doesn't
-- count itself.
pub record Encloses (flags fields_len : ℕ) (content payload : List ℕ) : Type 0 where
  pub front : List ℕ
  pub padding : List ℕ
  pub parts : payload ≡ front ++ (content ++ padding)
  pub front_len : length front ≡ pad_length_len flags + fields_len
  pub padding_len : length padding ≡ padding_len flags front

-- GOAWAY: the last stream behind a reserved bit, the error code, and debug data
pub record AreGoawayParts (last_part code_part debug payload : List ℕ) : Type 0 where
  pub parts : payload ≡ last_part ++ (code_part ++ debug)
  pub last_len : length last_part ≡ 4
  pub code_len : length code_part ≡ 4

abbrev pub Means : Header → List ℕ → Frame → Type 0
Means header payload (frames.Body stream end bytes counted) =
    (header.kind ≡ kinds.Data) × (header.stream ≡ stream) × (has_flag header.flags end_stream ≡ end) × (length payload ≡ counted) × Encloses header.flags 0 bytes payload
Means header payload (frames.Headers stream end whole block) =
    (header.kind ≡ kinds.Headers) × (header.stream ≡ stream) × (has_flag header.flags end_stream ≡ end) × (has_flag header.flags end_headers ≡ whole)
    × Encloses header.flags (priority_len header.flags) block payload
Means header payload (frames.Priority stream) = (header.kind ≡ kinds.Priority) × (header.stream ≡ stream)
Means header payload (frames.Reset stream code) = (header.kind ≡ kinds.RstStream) × (header.stream ≡ stream) × (number_of payload ≡ code)
Means header payload (frames.Settings acked pairs) = (header.kind ≡ kinds.Settings) × (has_flag header.flags ack ≡ acked) × (pairs_of payload ≡ pairs)
Means header payload (frames.Push stream) = (header.kind ≡ kinds.PushPromise) × (header.stream ≡ stream)
Means header payload (frames.Ping acked octets) = (header.kind ≡ kinds.Ping) × (has_flag header.flags ack ≡ acked) × (payload ≡ octets)
Means header payload (frames.Goaway last code) =
    (header.kind ≡ kinds.GoAway)
    × ((last_part code_part debug : List ℕ) × AreGoawayParts last_part code_part debug payload × (number31_of last_part ≡ last) × (number_of code_part ≡ code))
Means header payload (frames.Window stream add) = (header.kind ≡ kinds.WindowUpdate) × (header.stream ≡ stream) × (number31_of payload ≡ add)
Means header payload (frames.Continuation stream whole block) =
    (header.kind ≡ kinds.Continuation) × (header.stream ≡ stream) × (has_flag header.flags end_headers ≡ whole) × (payload ≡ block)
Means header payload (frames.Unknown kind stream) = (header.kind ≡ kinds.Unknown kind) × (header.stream ≡ stream)

-- The text is a whole header and a payload that is the frame's. The payloads' lengths are rules, in Fault.
pub record Spells (frame : Frame) (text : List ℕ) : Type 0 where
  pub whole : length text ≡ header_len + (header_of text).length
  pub means : Means (header_of text) (drop header_len text) frame

-- no rule refuses the text
pub record IsAllowed (text : List ℕ) : Type 0 where
  pub small : (header_of text).length ≤ max_frame_size
  pub sound : fault_in (header_of text) (drop header_len text) ≡ None
