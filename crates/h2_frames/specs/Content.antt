-- What stands before and behind the content of a payload: a pad length, priority fields and padding
-- (RFC 9113 sections 6.1, 6.2 and 6.6).
use Rattle.std.specs.Prelude.{ℕ, ◌+◌, ◌-◌, List, length, take, drop, slice_index, if◌then◌else◌}
use Rattle.h2_frames.specs.declared.kind.Kind.{Kind}
use Rattle.h2_frames.specs.declared.kind.Kind.TheVariants as kinds
use Rattle.h2_frames.specs.Header.{has_flag, padded, priority}

-- the pad length is one byte, where the frame is padded
abbrev pub pad_length_len : (flags : ℕ) → ℕ
pad_length_len flags = if has_flag flags padded then 1 else 0

-- the stream dependency is four bytes and the weight one, where the flag says that they are there
abbrev pub priority_len : (flags : ℕ) → ℕ
priority_len flags = if has_flag flags priority then 5 else 0

-- how many bytes stand before the content
abbrev pub front_len : Kind → (flags : ℕ) → ℕ
front_len kinds.Data flags = pad_length_len flags
front_len kinds.Headers flags = pad_length_len flags + priority_len flags
front_len kinds.PushPromise flags = pad_length_len flags
front_len _ flags = 0

-- how many bytes of padding follow the content of DATA and HEADERS
abbrev pub padding_len : (flags : ℕ) → List ℕ → ℕ
padding_len flags payload = if has_flag flags padded then slice_index payload 0 else 0

-- the payload without the bytes before its content and the padding behind it
abbrev pub content_of : Kind → (flags : ℕ) → List ℕ → List ℕ
content_of kind flags payload =
    take (length payload - (front_len kind flags + padding_len flags payload)) (drop (front_len kind flags) payload)
