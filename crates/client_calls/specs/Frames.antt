-- The frames of a client's calls.
use Rattle.std.specs.Prelude.{ℕ, zero, suc, Bool, true, false, List, [], ◌∷◌, ◌++◌, length, take, drop, map, if◌then◌else◌}
use Rattle.std.specs.List.{flat_map}
use Rattle.hpack_blocks.specs.Spelling.{block_spelling}
use Rattle.h2_frames.specs.Header.{max_frame_size}
use Rattle.h2_frames.specs.Spelling.{spelling}
use Rattle.h2_frames.specs.declared.frame.Frame.{Frame}
use Rattle.h2_frames.specs.declared.frame.Frame.TheVariants as frames
use Rattle.grpc_frame.specs.Frame.{frame}
use Rattle.grpc_meta.specs.declared.methods.Method.{Method}
use Rattle.client_calls.specs.declared.calls.ClientCall.{ClientCall}
use Rattle.client_calls.specs.Request.{request_fields}

-- SETTINGS without a setting, the first frame
abbrev pub settings_frame : Frame
settings_frame = frames.Settings false []

-- HEADERS with END_HEADERS
abbrev pub request_frame : ℕ → Method → Frame
request_frame id m = frames.Headers id false true (block_spelling false (request_fields m))

-- DATA without padding and without END_STREAM
abbrev pub data_of : ℕ → List ℕ → Frame
data_of id payload = frames.Body id false payload (length payload)

-- DATA without a byte, with END_STREAM
abbrev pub end_frames : ℕ → Bool → List Frame
end_frames id end = if end then frames.Body id true [] 0 ∷ [] else []

-- bytes in pieces of the greatest payload, the last of which may be shorter; at most so many
abbrev pub pieces_within : (most : ℕ) → List ℕ → List (List ℕ)
pieces_within zero bytes = []
pieces_within (suc most) [] = []
pieces_within (suc most) (b ∷ bytes) = take max_frame_size (b ∷ bytes) ∷ pieces_within most (drop max_frame_size (b ∷ bytes))

-- there are no more pieces than bytes
unfoldable pub pieces_of : List ℕ → List (List ℕ)
pieces_of bytes = pieces_within (length bytes) bytes

abbrev pub data_frames : ℕ → List ℕ → List Frame
data_frames id bytes = map (data_of id) (pieces_of bytes)

-- each message in DATA of its own
abbrev pub message_frames : ℕ → List ℕ → List Frame
message_frames id message = data_frames id (frame message)

abbrev pub call_frames : ClientCall → List Frame
call_frames call = request_frame call.stream call.method ∷ (flat_map (message_frames call.stream) call.messages.items ++ end_frames call.stream call.end)

-- call after call
abbrev pub client_frames : List ClientCall → List Frame
client_frames calls = settings_frame ∷ flat_map call_frames calls

-- ---- their bytes

abbrev pub message_bytes : ℕ → List ℕ → List ℕ
message_bytes id message = flat_map spelling (message_frames id message)

abbrev pub call_bytes : ClientCall → List ℕ
call_bytes call = flat_map spelling (call_frames call)
