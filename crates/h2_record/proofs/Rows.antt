-- Rows worked out by hand: what the definitions say of short connections.
use Rattle.std.proofs.Common.{◌≡◌, ℕ, pos, ◌-ℤ◌, Bool, true, false, List, [], ◌∷◌, Option, Some, None, refl}
use Rattle.h2_frames.specs.declared.frame.Frame.{Frame}
use Rattle.h2_frames.specs.declared.frame.Frame.TheVariants as frames
use Rattle.h2_streams.specs.declared.stream.StreamState.TheVariants as is
use Rattle.hpack_blocks.specs.Reading.{string_at, name_at, literal_at, indexed_at, field_at}
use Rattle.hpack_blocks.specs.Block.{fields_from, block_from}
use Rattle.hpack_blocks.specs.Table.{list_size, newest, entry_at}
use Rattle.hpack_blocks.specs.Static.{static_table}
use Rattle.grpc_meta.specs.Fields.{is_bad, is_pseudo}
use Rattle.grpc_meta.specs.Request.{has_late_pseudo, has_unknown_pseudo, is_repeated, is_missing, has_empty_path, is_malformed}
use Rattle.h2_record.specs.declared.event.Event.TheVariants as event
use Rattle.h2_record.specs.Record.{Record, In, Out}
use Rattle.h2_record.specs.Windows.{send_window_of}
use Rattle.h2_record.specs.Live.{Reset, is_live_with}
use Rattle.h2_record.specs.Resets.{reset_by, reset_behind, resets_of, is_live, state_of}
use Rattle.h2_record.specs.Refusals.{first_reset, headers_refusal}
use Rattle.h2_record.specs.Faults.{fault_by}
use Rattle.h2_record.specs.Rules.{broken}
use Rattle.h2_record.specs.Control.{control_of, own_settings}
use Rattle.h2_record.specs.Events.{events_of}

-- SETTINGS without pairs
abbrev settings : Frame
settings = frames.Settings false []

-- `:method POST`, `:scheme http`, `:path /x`
abbrev request : Bool → Frame
request end = frames.Headers 1 end true (131 ∷ 134 ∷ 68 ∷ 2 ∷ 47 ∷ 120 ∷ [])

-- a request came on stream 1
abbrev opened : Record
opened = In (request false) ∷ In settings ∷ []

abbrev octets : List ℕ
octets = 1 ∷ 2 ∷ 3 ∷ 4 ∷ 5 ∷ 6 ∷ 7 ∷ 8 ∷ []

-- the server's SETTINGS are the first frame due, SETTINGS without ACK are answered, and PING by its octets
ping : control_of (In (frames.Ping false octets) ∷ In settings ∷ []) ≡ (frames.Settings false own_settings ∷ frames.Settings true [] ∷ frames.Ping true octets ∷ [])
unfolding fault_by reset_by is_live_with
ping = refl

-- PING with ACK isn't answered, and neither are SETTINGS with ACK
acks : control_of (In (frames.Ping true octets) ∷ In (frames.Settings true []) ∷ In settings ∷ []) ≡ (frames.Settings false own_settings ∷ frames.Settings true [] ∷ [])
unfolding fault_by reset_by is_live_with
acks = refl

-- the first frame has to be SETTINGS without ACK
first : fault_by [] (frames.Settings true []) ≡ broken 7 (Some 1)
unfolding fault_by reset_by is_live_with
first = refl

first_event : events_of [] (frames.Ping false octets) ≡ (event.Fault 1 7 ∷ [])
unfolding fault_by reset_by is_live_with
first_event = refl

fault_then_goaway : control_of (In settings ∷ In (frames.Ping false octets) ∷ []) ≡ (frames.Settings false own_settings ∷ frames.Goaway 0 1 ∷ [])
unfolding fault_by reset_by is_live_with
fault_then_goaway = refl

-- a frame on stream 1
abbrev body : (end : Bool) → (counted : ℕ) → List ℕ → Frame
body end counted bytes = frames.Body 1 end bytes counted

abbrev initial_window : ℕ → Frame
initial_window size = frames.Settings false (record { id = 4; value = size } ∷ [])

abbrev reset_of : (code : ℕ) → Option Reset
reset_of code = first_reset 1 code

alive : is_live opened 1 ≡ true
unfolding fault_by reset_by reset_behind is_live_with block_from fields_from field_at literal_at indexed_at string_at name_at entry_at static_table newest list_size is_bad is_pseudo has_late_pseudo has_unknown_pseudo is_repeated is_missing has_empty_path is_malformed
alive = refl

-- a changed initial size is the window of a stream, less what went
shifted : send_window_of (In (initial_window 10) ∷ opened) 1 ≡ pos 10
unfolding fault_by reset_by reset_behind is_live_with block_from fields_from field_at literal_at indexed_at string_at name_at entry_at static_table newest list_size is_bad is_pseudo has_late_pseudo has_unknown_pseudo is_repeated is_missing has_empty_path is_malformed
shifted = refl

negative : send_window_of (In (initial_window 0) ∷ Out (body false 8 octets) ∷ In (initial_window 10) ∷ opened) 1 ≡ pos 0 -ℤ pos 8
unfolding fault_by reset_by reset_behind is_live_with block_from fields_from field_at literal_at indexed_at string_at name_at entry_at static_table newest list_size is_bad is_pseudo has_late_pseudo has_unknown_pseudo is_repeated is_missing has_empty_path is_malformed
negative = refl

-- WINDOW_UPDATE that makes the stream's window pass 2^31-1 resets it
greater : reset_by (resets_of (In (initial_window 10) ∷ opened)) (In (initial_window 10) ∷ opened) (frames.Window 1 2147483638) ≡ reset_of 3
unfolding fault_by reset_by reset_behind is_live_with block_from fields_from field_at literal_at indexed_at string_at name_at entry_at static_table newest list_size is_bad is_pseudo has_late_pseudo has_unknown_pseudo is_repeated is_missing has_empty_path is_malformed
greater = refl

greatest_taken : reset_by (resets_of (In (initial_window 10) ∷ opened)) (In (initial_window 10) ∷ opened) (frames.Window 1 2147483637) ≡ None
unfolding fault_by reset_by reset_behind is_live_with block_from fields_from field_at literal_at indexed_at string_at name_at entry_at static_table newest list_size is_bad is_pseudo has_late_pseudo has_unknown_pseudo is_repeated is_missing has_empty_path is_malformed
greatest_taken = refl

-- a changed initial size that makes it pass is a connection error
shift_fault : fault_by (In (frames.Window 1 2147418112) ∷ opened) (initial_window 65536) ≡ broken 10 (Some 3)
unfolding fault_by reset_by reset_behind is_live_with block_from fields_from field_at literal_at indexed_at string_at name_at entry_at static_table newest list_size is_bad is_pseudo has_late_pseudo has_unknown_pseudo is_repeated is_missing has_empty_path is_malformed
shift_fault = refl

shift_good : fault_by (In (frames.Window 1 2147418112) ∷ opened) (initial_window 65535) ≡ None
unfolding fault_by reset_by reset_behind is_live_with block_from fields_from field_at literal_at indexed_at string_at name_at entry_at static_table newest list_size is_bad is_pseudo has_late_pseudo has_unknown_pseudo is_repeated is_missing has_empty_path is_malformed
shift_good = refl

-- a later bad pair is the lesser rule
bad_pair_first : fault_by (In (frames.Window 1 2147418112) ∷ opened) (frames.Settings false (record { id = 4; value = 65536 } ∷ record { id = 2; value = 2 } ∷ [])) ≡ broken 9 (Some 1)
unfolding fault_by reset_by reset_behind is_live_with block_from fields_from field_at literal_at indexed_at string_at name_at entry_at static_table newest list_size is_bad is_pseudo has_late_pseudo has_unknown_pseudo is_repeated is_missing has_empty_path is_malformed
bad_pair_first = refl

-- three frames of 16,384 bytes leave 16,383 of the receive window
abbrev filled : List ℕ → Record
filled bytes = In (body false 16384 bytes) ∷ In (body false 16384 bytes) ∷ In (body false 16384 bytes) ∷ opened

-- DATA past the stream's window reset it, and are credited on the connection alone
past_window : (bytes : List ℕ) → events_of (filled bytes) (body false 16384 bytes) ≡ (event.Reset 1 3 ∷ [])
unfolding fault_by reset_by reset_behind is_live_with block_from fields_from field_at literal_at indexed_at string_at name_at entry_at static_table newest list_size is_bad is_pseudo has_late_pseudo has_unknown_pseudo is_repeated is_missing has_empty_path is_malformed
past_window bytes = refl

past_window_control : (bytes : List ℕ) → control_of (In (body false 16384 bytes) ∷ opened) ≡ (frames.Settings false own_settings ∷ frames.Settings true [] ∷ frames.Window 0 16384 ∷ [])
unfolding fault_by reset_by reset_behind is_live_with block_from fields_from field_at literal_at indexed_at string_at name_at entry_at static_table newest list_size is_bad is_pseudo has_late_pseudo has_unknown_pseudo is_repeated is_missing has_empty_path is_malformed
past_window_control bytes = refl

-- the credit of the stream is due with the next frame, since no reply waits
credit_next : (bytes : List ℕ) → control_of (In (frames.Ping false octets) ∷ In (body false 54 bytes) ∷ opened) ≡ (frames.Settings false own_settings ∷ frames.Settings true [] ∷ frames.Window 0 54 ∷ frames.Window 1 54 ∷ frames.Ping true octets ∷ [])
unfolding fault_by reset_by reset_behind is_live_with block_from fields_from field_at literal_at indexed_at string_at name_at entry_at static_table newest list_size is_bad is_pseudo has_late_pseudo has_unknown_pseudo is_repeated is_missing has_empty_path is_malformed
credit_next bytes = refl

-- DATA that end the stream give it none
no_credit_at_end : (bytes : List ℕ) → control_of (In (frames.Ping true octets) ∷ In (body true 54 bytes) ∷ opened) ≡ (frames.Settings false own_settings ∷ frames.Settings true [] ∷ frames.Window 0 54 ∷ [])
unfolding fault_by reset_by reset_behind is_live_with block_from fields_from field_at literal_at indexed_at string_at name_at entry_at static_table newest list_size is_bad is_pseudo has_late_pseudo has_unknown_pseudo is_repeated is_missing has_empty_path is_malformed
no_credit_at_end bytes = refl

-- the client has reset the stream
abbrev cancelled : Record
cancelled = In (frames.Reset 1 8) ∷ opened

cancel_event : events_of opened (frames.Reset 1 8) ≡ (event.Reset 1 8 ∷ [])
unfolding fault_by reset_by reset_behind is_live_with block_from fields_from field_at literal_at indexed_at string_at name_at entry_at static_table newest list_size is_bad is_pseudo has_late_pseudo has_unknown_pseudo is_repeated is_missing has_empty_path is_malformed
cancel_event = refl

-- HEADERS on a closed stream are answered by a reset, again and again, and open nothing
closed_headers : resets_of (In (request false) ∷ In (request false) ∷ cancelled) ≡ (record { stream = 1; code = 5; is_first = false } ∷ record { stream = 1; code = 5; is_first = false } ∷ [])
unfolding fault_by reset_by reset_behind is_live_with block_from fields_from field_at literal_at indexed_at string_at name_at entry_at static_table newest list_size is_bad is_pseudo has_late_pseudo has_unknown_pseudo is_repeated is_missing has_empty_path is_malformed
closed_headers = refl

closed_state : state_of (In (request false) ∷ cancelled) 1 ≡ is.Closed false
unfolding fault_by reset_by reset_behind is_live_with block_from fields_from field_at literal_at indexed_at string_at name_at entry_at static_table newest list_size is_bad is_pseudo has_late_pseudo has_unknown_pseudo is_repeated is_missing has_empty_path is_malformed
closed_state = refl

-- RST_STREAM and WINDOW_UPDATE on a closed stream are passed over
closed_again : events_of cancelled (frames.Reset 1 8) ≡ []
unfolding fault_by reset_by reset_behind is_live_with block_from fields_from field_at literal_at indexed_at string_at name_at entry_at static_table newest list_size is_bad is_pseudo has_late_pseudo has_unknown_pseudo is_repeated is_missing has_empty_path is_malformed
closed_again = refl

-- DATA behind the client's end reset the stream
ended_data : (bytes : List ℕ) → reset_by (resets_of (In (body true 1 bytes) ∷ opened)) (In (body true 1 bytes) ∷ opened) (body false 1 bytes) ≡ reset_of 5
unfolding fault_by reset_by reset_behind is_live_with block_from fields_from field_at literal_at indexed_at string_at name_at entry_at static_table newest list_size is_bad is_pseudo has_late_pseudo has_unknown_pseudo is_repeated is_missing has_empty_path is_malformed
ended_data bytes = refl

-- DATA on a stream that the server reset are passed over, but for their credit on the connection
remembered : (bytes : List ℕ) → events_of (In (body false 1 bytes) ∷ In (body true 1 bytes) ∷ opened) (body false 1 bytes) ≡ []
unfolding fault_by reset_by reset_behind is_live_with block_from fields_from field_at literal_at indexed_at string_at name_at entry_at static_table newest list_size is_bad is_pseudo has_late_pseudo has_unknown_pseudo is_repeated is_missing has_empty_path is_malformed
remembered bytes = refl

remembered_state : (bytes : List ℕ) → state_of (In (body false 1 bytes) ∷ In (body true 1 bytes) ∷ opened) 1 ≡ is.Closed true
unfolding fault_by reset_by reset_behind is_live_with block_from fields_from field_at literal_at indexed_at string_at name_at entry_at static_table newest list_size is_bad is_pseudo has_late_pseudo has_unknown_pseudo is_repeated is_missing has_empty_path is_malformed
remembered_state bytes = refl

-- the hundredth live stream opens, and one more is refused
hundredth : headers_refusal 99 199 is.Idle ≡ None
unfolding fault_by reset_by reset_behind is_live_with block_from fields_from field_at literal_at indexed_at string_at name_at entry_at static_table newest list_size is_bad is_pseudo has_late_pseudo has_unknown_pseudo is_repeated is_missing has_empty_path is_malformed
hundredth = refl

hundred_first : headers_refusal 100 201 is.Idle ≡ first_reset 201 7
unfolding fault_by reset_by reset_behind is_live_with block_from fields_from field_at literal_at indexed_at string_at name_at entry_at static_table newest list_size is_bad is_pseudo has_late_pseudo has_unknown_pseudo is_repeated is_missing has_empty_path is_malformed
hundred_first = refl

-- HEADERS on an even id; GOAWAY has the last id before it
even : control_of (In (frames.Headers 2 false true []) ∷ opened) ≡ (frames.Settings false own_settings ∷ frames.Settings true [] ∷ frames.Goaway 1 1 ∷ [])
unfolding fault_by reset_by reset_behind is_live_with block_from fields_from field_at literal_at indexed_at string_at name_at entry_at static_table newest list_size is_bad is_pseudo has_late_pseudo has_unknown_pseudo is_repeated is_missing has_empty_path is_malformed
even = refl

-- a frame on an idle stream
idle : fault_by opened (frames.Reset 3 0) ≡ broken 12 (Some 1)
unfolding fault_by reset_by reset_behind is_live_with block_from fields_from field_at literal_at indexed_at string_at name_at entry_at static_table newest list_size is_bad is_pseudo has_late_pseudo has_unknown_pseudo is_repeated is_missing has_empty_path is_malformed
idle = refl

-- an id that was skipped is closed
skipped : state_of (In (frames.Headers 5 false true (131 ∷ 134 ∷ 68 ∷ 2 ∷ 47 ∷ 120 ∷ [])) ∷ opened) 3 ≡ is.Closed false
unfolding fault_by reset_by reset_behind is_live_with block_from fields_from field_at literal_at indexed_at string_at name_at entry_at static_table newest list_size is_bad is_pseudo has_late_pseudo has_unknown_pseudo is_repeated is_missing has_empty_path is_malformed
skipped = refl

-- WINDOW_UPDATE of 0: on the connection an error, on a stream a reset
no_increment : fault_by opened (frames.Window 0 0) ≡ broken 13 (Some 1)
unfolding fault_by reset_by reset_behind is_live_with block_from fields_from field_at literal_at indexed_at string_at name_at entry_at static_table newest list_size is_bad is_pseudo has_late_pseudo has_unknown_pseudo is_repeated is_missing has_empty_path is_malformed
no_increment = refl

no_increment_on_stream : reset_by (resets_of opened) opened (frames.Window 1 0) ≡ reset_of 1
unfolding fault_by reset_by reset_behind is_live_with block_from fields_from field_at literal_at indexed_at string_at name_at entry_at static_table newest list_size is_bad is_pseudo has_late_pseudo has_unknown_pseudo is_repeated is_missing has_empty_path is_malformed
no_increment_on_stream = refl

-- the connection's window
connection_passes : fault_by opened (frames.Window 0 2147418113) ≡ broken 14 (Some 3)
unfolding fault_by reset_by reset_behind is_live_with block_from fields_from field_at literal_at indexed_at string_at name_at entry_at static_table newest list_size is_bad is_pseudo has_late_pseudo has_unknown_pseudo is_repeated is_missing has_empty_path is_malformed
connection_passes = refl

connection_greatest : fault_by opened (frames.Window 0 2147418112) ≡ None
unfolding fault_by reset_by reset_behind is_live_with block_from fields_from field_at literal_at indexed_at string_at name_at entry_at static_table newest list_size is_bad is_pseudo has_late_pseudo has_unknown_pseudo is_repeated is_missing has_empty_path is_malformed
connection_greatest = refl

-- the answer is whole before the client ended: the stream is reset, with no error
early_answer : resets_of (Out (frames.Headers 1 true true []) ∷ opened) ≡ (record { stream = 1; code = 0; is_first = true } ∷ [])
unfolding fault_by reset_by reset_behind is_live_with block_from fields_from field_at literal_at indexed_at string_at name_at entry_at static_table newest list_size is_bad is_pseudo has_late_pseudo has_unknown_pseudo is_repeated is_missing has_empty_path is_malformed
early_answer = refl

late_answer : resets_of (Out (frames.Headers 1 true true []) ∷ In (body true 0 []) ∷ opened) ≡ []
unfolding fault_by reset_by reset_behind is_live_with block_from fields_from field_at literal_at indexed_at string_at name_at entry_at static_table newest list_size is_bad is_pseudo has_late_pseudo has_unknown_pseudo is_repeated is_missing has_empty_path is_malformed
late_answer = refl

both_ended : is_live (Out (frames.Headers 1 true true []) ∷ In (body true 0 []) ∷ opened) 1 ≡ false
unfolding fault_by reset_by reset_behind is_live_with block_from fields_from field_at literal_at indexed_at string_at name_at entry_at static_table newest list_size is_bad is_pseudo has_late_pseudo has_unknown_pseudo is_repeated is_missing has_empty_path is_malformed
both_ended = refl

-- inside a header block nothing but its CONTINUATION comes
inside_block : fault_by (In (frames.Headers 1 false false (131 ∷ [])) ∷ In settings ∷ []) (frames.Ping false octets) ≡ broken 8 (Some 1)
unfolding fault_by reset_by reset_behind is_live_with block_from fields_from field_at literal_at indexed_at string_at name_at entry_at static_table newest list_size is_bad is_pseudo has_late_pseudo has_unknown_pseudo is_repeated is_missing has_empty_path is_malformed
inside_block = refl

-- a request in two frames is opened by the second
continued_block : is_live (In (frames.Continuation 1 true (134 ∷ 68 ∷ 2 ∷ 47 ∷ 120 ∷ [])) ∷ In (frames.Headers 1 false false (131 ∷ [])) ∷ In settings ∷ []) 1 ≡ true
unfolding fault_by reset_by reset_behind is_live_with block_from fields_from field_at literal_at indexed_at string_at name_at entry_at static_table newest list_size is_bad is_pseudo has_late_pseudo has_unknown_pseudo is_repeated is_missing has_empty_path is_malformed
continued_block = refl

-- a request without a path is malformed, and isn't told
malformed : resets_of (In (frames.Headers 1 false true (131 ∷ 134 ∷ [])) ∷ In settings ∷ []) ≡ (record { stream = 1; code = 1; is_first = true } ∷ [])
unfolding fault_by reset_by reset_behind is_live_with block_from fields_from field_at literal_at indexed_at string_at name_at entry_at static_table newest list_size is_bad is_pseudo has_late_pseudo has_unknown_pseudo is_repeated is_missing has_empty_path is_malformed
malformed = refl

malformed_event : events_of (In settings ∷ []) (frames.Headers 1 false true (131 ∷ 134 ∷ [])) ≡ []
unfolding fault_by reset_by reset_behind is_live_with block_from fields_from field_at literal_at indexed_at string_at name_at entry_at static_table newest list_size is_bad is_pseudo has_late_pseudo has_unknown_pseudo is_repeated is_missing has_empty_path is_malformed
malformed_event = refl

-- an index past the tables
bad_block : fault_by (In settings ∷ []) (frames.Headers 1 false true (190 ∷ [])) ≡ broken 15 (Some 9)
unfolding fault_by reset_by reset_behind is_live_with block_from fields_from field_at literal_at indexed_at string_at name_at entry_at static_table newest list_size is_bad is_pseudo has_late_pseudo has_unknown_pseudo is_repeated is_missing has_empty_path is_malformed
bad_block = refl

-- trailers end the stream
trailers : events_of opened (frames.Headers 1 true true []) ≡ (event.Ended 1 ∷ [])
unfolding fault_by reset_by reset_behind is_live_with block_from fields_from field_at literal_at indexed_at string_at name_at entry_at static_table newest list_size is_bad is_pseudo has_late_pseudo has_unknown_pseudo is_repeated is_missing has_empty_path is_malformed
trailers = refl

-- trailers without END_STREAM are malformed
open_trailers : events_of opened (frames.Headers 1 false true []) ≡ (event.Reset 1 1 ∷ [])
unfolding fault_by reset_by reset_behind is_live_with block_from fields_from field_at literal_at indexed_at string_at name_at entry_at static_table newest list_size is_bad is_pseudo has_late_pseudo has_unknown_pseudo is_repeated is_missing has_empty_path is_malformed
open_trailers = refl
