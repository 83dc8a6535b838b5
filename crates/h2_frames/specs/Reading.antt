-- What a reader answers to the bytes that it holds (RFC 9113 sections 3.4, 4.1 and 4.2).
use Rattle.std.specs.Prelude.{ℕ, ◌+◌, ◌-◌, true, not, ◌&&◌, nat_lt, nat_eq, List, [], ◌∷◌, ◌++◌, length, take, drop, codes, Option, Some, None, if◌then◌else◌}
use Rattle.std.specs.List.{starts_with}
use Rattle.h2_frames.specs.declared.header.Header.{Header}
use Rattle.h2_frames.specs.declared.frame.Frame.{Frame}
use Rattle.h2_frames.specs.declared.fault.H2Fault.{H2Fault}
use Rattle.h2_frames.specs.declared.reader.Next.{Next}
use Rattle.h2_frames.specs.declared.reader.Next.TheVariants as next
use Rattle.h2_frames.specs.Header.{header_of, header_len, max_frame_size}
use Rattle.h2_frames.specs.Fault.{fault, fault_in, protocol_error, frame_size_error}
use Rattle.h2_frames.specs.Frame.{frame_of}
use Rattle.h2_frames.specs.Held.{Held, preface_len}

abbrev blank_line : List ℕ
blank_line = 13 ∷ 10 ∷ 13 ∷ 10 ∷ []

-- what a client sends before its first frame: PRI * HTTP/2.0, a blank line, SM, a blank line
unfoldable pub preface : List ℕ
preface = codes "PRI * HTTP/2.0" ++ blank_line ++ codes "SM" ++ blank_line

-- rule 1: a byte that isn't the preface's is a fault once it came
abbrev pub preface_next : List ℕ → Next
preface_next bytes = if starts_with nat_eq preface bytes then next.More else next.Fault (fault protocol_error 1)

-- a whole frame is given, where it breaks no rule
abbrev pub judged : Option H2Fault → Frame → Next
judged None frame = next.Frame frame
judged (Some broken) frame = next.Fault broken

-- rule 2: a payload above 16,384 bytes is a fault once its header came
abbrev pub payload_next : Header → List ℕ → Next
payload_next header bytes =
    if nat_lt max_frame_size header.length then next.Fault (fault frame_size_error 2)
    else if nat_lt (length bytes) header.length then next.More
    else judged (fault_in header (take header.length bytes)) (frame_of header (take header.length bytes))

-- the first frame of the bytes after the preface
unfoldable pub frame_next : List ℕ → Next
frame_next bytes = if nat_lt (length bytes) header_len then next.More else payload_next (header_of bytes) (drop header_len bytes)

abbrev pub next_of : Held → Next
next_of held = if held.started then frame_next held.bytes else preface_next held.bytes

-- what is held after an answer: a frame's bytes are gone; nothing else takes any
abbrev pub held_after : Held → Next → Held
held_after held (next.Frame frame) = record held { bytes = drop (header_len + (header_of held.bytes).length) held.bytes }
held_after held next.More = held
held_after held (next.Fault broken) = held

-- a whole preface is passed over
abbrev pub settled : Held → Held
settled held =
    if not held.started && starts_with nat_eq held.bytes preface
    then record { started = true; bytes = drop preface_len held.bytes }
    else held

-- what is held after a piece of the stream
abbrev pub held_with : Held → List ℕ → Held
held_with held piece = settled (record held { bytes = held.bytes ++ piece })

-- the bytes still missing for the header, or for the payload that it announces
unfoldable pub frame_need : List ℕ → ℕ
frame_need bytes = if nat_lt (length bytes) header_len then header_len - length bytes else header_len + (header_of bytes).length - length bytes

-- the bytes still missing for the preface, for a header or for a payload
abbrev pub need_of : Held → ℕ
need_of held = if held.started then frame_need held.bytes else preface_len - length held.bytes
