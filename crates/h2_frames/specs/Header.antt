-- The nine bytes before a payload (RFC 9113 section 4.1).
use Rattle.std.specs.Prelude.{ℕ, ◌%◌, ◌^◌, ◌==◌, Bool, not, List, take, drop, bit_and, if◌then◌else◌}
use Rattle.wire_bytes.specs.Number.{number_of}
use Rattle.h2_frames.specs.declared.kind.Kind.{Kind}
use Rattle.h2_frames.specs.declared.kind.Kind.TheVariants as kinds
use Rattle.h2_frames.specs.declared.header.Header.{Header}

-- the types of frames, in the order of section 6
abbrev pub kind_of : ℕ → Kind
kind_of byte =
    if byte == 0 then kinds.Data
    else if byte == 1 then kinds.Headers
    else if byte == 2 then kinds.Priority
    else if byte == 3 then kinds.RstStream
    else if byte == 4 then kinds.Settings
    else if byte == 5 then kinds.PushPromise
    else if byte == 6 then kinds.Ping
    else if byte == 7 then kinds.GoAway
    else if byte == 8 then kinds.WindowUpdate
    else if byte == 9 then kinds.Continuation
    else kinds.Unknown byte

-- the flags of section 6, each a bit of the flags byte
abbrev pub end_stream : ℕ
end_stream = 1

abbrev pub ack : ℕ
ack = 1

abbrev pub end_headers : ℕ
end_headers = 4

abbrev pub padded : ℕ
padded = 8

abbrev pub priority : ℕ
priority = 32

abbrev pub has_flag : (flags flag : ℕ) → Bool
has_flag flags flag = not (bit_and flags flag == 0)

-- the number of bytes before a payload
abbrev pub header_len : ℕ
header_len = 9

-- the greatest payload, which SETTINGS_MAX_FRAME_SIZE has until it is raised (section 4.2)
abbrev pub max_frame_size : ℕ
max_frame_size = 16384

-- a number of 31 bits behind a reserved bit, which is passed over
abbrev pub number31_of : List ℕ → ℕ
number31_of bytes = number_of bytes % 2 ^ 31

-- the length of the payload in three bytes, the type, the flags, and the stream in four bytes
unfoldable pub header_of : List ℕ → Header
header_of bytes = record {
  length = number_of (take 3 bytes);
  kind = kind_of (number_of (take 1 (drop 3 bytes)));
  flags = number_of (take 1 (drop 4 bytes));
  stream = number31_of (take 4 (drop 5 bytes));
}
