-- What is written on a stream besides control frames, as one list: fields, octets of DATA and resets, in their order.
-- So the cutting of replies into DATA is of no account (RFC 9113 section 8.1, gRPC over HTTP/2).
use Rattle.std.specs.Prelude.{ℕ, ◌==◌, Bool, true, false, ◌&&◌, List, [], ◌∷◌, ◌++◌, map, drop, if◌then◌else◌}
use Rattle.std.specs.List.{flat_map}
use Rattle.hpack_blocks.specs.Spelling.{field_spelling}
use Rattle.h2_frames.specs.declared.frame.Frame.{Frame}
use Rattle.h2_frames.specs.declared.frame.Frame.TheVariants as frames
use Rattle.h2_record.specs.Record.{AnswerPart, Head, Reply, Tail, Abort, Record, Out, Given, any_out}
use Rattle.h2_record.specs.Live.{Reset}
use Rattle.h2_record.specs.Resets.{is_live}

pub data Token : Type 0 where
  -- HEADERS, whether they end the stream, and their fields' spelling
  Fields : Bool → List ℕ → Token
  Octet : ℕ → Token
  -- RST_STREAM that the caller asked for
  Aborted : ℕ → Token

-- what a part of the answer is
abbrev pub part_text : AnswerPart → List Token
part_text (Head fields end) = Fields end (flat_map field_spelling fields) ∷ []
part_text (Reply bytes) = map Octet bytes
part_text (Tail fields) = Fields true (flat_map field_spelling fields) ∷ []
part_text (Abort code) = Aborted code ∷ []

-- what was given on a stream
abbrev pub given_text : Record → ℕ → List Token
given_text [] id = []
given_text (Given stream part ∷ r) id = if id == stream then given_text r id ++ part_text part else given_text r id
given_text (_ ∷ r) id = given_text r id

-- whether a header block went; the first has the table size update before its fields
abbrev pub is_headers : Frame → Bool
is_headers (frames.Headers stream ended whole block) = true
is_headers _ = false

abbrev pub has_headed : Record → Bool
has_headed r = any_out is_headers r

-- what a frame that goes is; a reset of a stream that is closed already is the server's own
abbrev pub frame_text : Record → ℕ → Frame → List Token
frame_text r id (frames.Headers stream ended whole block) = if id == stream then Fields ended (drop (if has_headed r then 0 else 1) block) ∷ [] else []
frame_text r id (frames.Body stream ended bytes counted) = if id == stream then map Octet bytes else []
frame_text r id (frames.Reset stream code) = if id == stream && is_live r id then Aborted code ∷ [] else []
frame_text r id _ = []

-- what went on a stream
abbrev pub written_text : Record → ℕ → List Token
written_text [] id = []
written_text (Out frame ∷ r) id = written_text r id ++ frame_text r id frame
written_text (_ ∷ r) id = written_text r id

-- the codes of the resets due on a stream, in their order, of a list with the latest first
abbrev pub codes_on : List Reset → ℕ → List ℕ
codes_on [] id = []
codes_on (reset ∷ resets) id = if id == reset.stream then codes_on resets id ++ reset.code ∷ [] else codes_on resets id

-- those that went
abbrev pub written_codes : Record → ℕ → List ℕ
written_codes [] id = []
written_codes (Out (frames.Reset stream code) ∷ r) id = if id == stream then written_codes r id ++ code ∷ [] else written_codes r id
written_codes (_ ∷ r) id = written_codes r id
