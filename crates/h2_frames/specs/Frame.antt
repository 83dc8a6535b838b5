-- Which frame a header and a payload spell (RFC 9113 section 6).
use Rattle.std.specs.Prelude.{ℕ, List, [], ◌∷◌, length, take, drop}
use Rattle.wire_bytes.specs.Number.{number_of}
use Rattle.h2_frames.specs.declared.kind.Kind.{Kind}
use Rattle.h2_frames.specs.declared.kind.Kind.TheVariants as kinds
use Rattle.h2_frames.specs.declared.header.Header.{Header}
use Rattle.h2_frames.specs.declared.frame.Frame.{Frame}
use Rattle.h2_frames.specs.declared.frame.Frame.TheVariants as frames
use Rattle.h2_frames.specs.declared.pairs.Pair.{Pair}
use Rattle.h2_frames.specs.Header.{end_stream, ack, end_headers, has_flag, number31_of}
use Rattle.h2_frames.specs.Content.{content_of}

-- an identifier of two bytes and a value of four (section 6.5.1)
abbrev pub pair_of : List ℕ → Pair
pair_of six = record { id = number_of (take 2 six); value = number_of (drop 2 six) }

-- six bytes each
abbrev pub pairs_of : List ℕ → List Pair
pairs_of (a ∷ b ∷ c ∷ d ∷ e ∷ f ∷ bytes) = pair_of (a ∷ b ∷ c ∷ d ∷ e ∷ f ∷ []) ∷ pairs_of bytes
pairs_of _ = []

-- The frame of a payload, by its type, its flags and its stream.
abbrev pub frame_by : Kind → (flags stream : ℕ) → List ℕ → Frame
frame_by kinds.Data flags stream payload = frames.Body stream (has_flag flags end_stream) (content_of kinds.Data flags payload) (length payload)
frame_by kinds.Headers flags stream payload = frames.Headers stream (has_flag flags end_stream) (has_flag flags end_headers) (content_of kinds.Headers flags payload)
frame_by kinds.Priority flags stream payload = frames.Priority stream
frame_by kinds.RstStream flags stream payload = frames.Reset stream (number_of payload)
frame_by kinds.Settings flags stream payload = frames.Settings (has_flag flags ack) (pairs_of payload)
frame_by kinds.PushPromise flags stream payload = frames.Push stream
frame_by kinds.Ping flags stream payload = frames.Ping (has_flag flags ack) payload
frame_by kinds.GoAway flags stream payload = frames.Goaway (number31_of (take 4 payload)) (number_of (take 4 (drop 4 payload)))
frame_by kinds.WindowUpdate flags stream payload = frames.Window stream (number31_of payload)
frame_by kinds.Continuation flags stream payload = frames.Continuation stream (has_flag flags end_headers) payload
frame_by (kinds.Unknown byte) flags stream payload = frames.Unknown byte stream

unfoldable pub frame_of : Header → List ℕ → Frame
frame_of header payload = frame_by header.kind header.flags header.stream payload
