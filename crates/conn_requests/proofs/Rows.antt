-- Rows worked out by hand: what the frames of a connection decide, and its record with the answers in it.
use Rattle.std.proofs.Common.{◌≡◌, ℕ, pos, Bool, true, false, List, [], ◌∷◌, ◌++◌, length, Option, Some, None, refl}
use Rattle.std.specs.Prelude.{codes, fold}
use Rattle.std.specs.Str.{is_utf8, chars}
use lib.Utf8.{encode}
use Rattle.h2_frames.specs.declared.frame.Frame.{Frame}
use Rattle.h2_frames.specs.declared.frame.Frame.TheVariants as frames
use Rattle.hpack_blocks.specs.Reading.{string_at, name_at, literal_at, indexed_at, field_at}
use Rattle.hpack_blocks.specs.Block.{fields_from, block_from}
use Rattle.hpack_blocks.specs.Table.{list_size, newest, entry_at}
use Rattle.hpack_blocks.specs.Static.{static_table}
use Rattle.grpc_frame.specs.Frame.{frame, prefix_of}
use Rattle.grpc_frame.specs.Part.{part_of}
use Rattle.grpc_frame.specs.Split.{split_of}
use Rattle.grpc_meta.specs.Answer.{response_head, http_only, trailers}
use Rattle.grpc_meta.specs.Fields.{is_bad, is_pseudo}
use Rattle.grpc_meta.specs.Methods.{path_of, methods}
use Rattle.grpc_meta.specs.Request.{has_late_pseudo, has_unknown_pseudo, is_repeated, is_missing, has_empty_path, is_malformed, is_post, is_grpc, method_named}
use Rattle.grpc_meta.specs.declared.answers.Status.{Status}
use Rattle.grpc_meta.specs.declared.methods.Method.TheVariants as method
use Rattle.proto_fields.specs.Message.{placed_from}
use Rattle.proto_fields.specs.Record.{record_at, tag_at, len_at, payload_at}
use Rattle.proto_fields.specs.Varint.{varint_at, number_at}
use Rattle.write_msgs.specs.Request.{append_rows_request_of}
use Rattle.h2_record.specs.declared.event.Event.TheVariants as event
use Rattle.h2_record.specs.Record.{Record, In, Whole, Given, Head, Reply, Tail}
use Rattle.h2_record.specs.Early.{early_fault, late_fault}
use Rattle.h2_record.specs.Live.{is_live_with}
use Rattle.h2_record.specs.Resets.{reset_by, reset_behind}
use Rattle.h2_record.specs.Faults.{fault_by}
use Rattle.conn_requests.specs.declared.asks.Ask.{Ask}
use Rattle.conn_requests.specs.declared.asks.Ask.TheVariants as ask
use Rattle.conn_requests.specs.declared.asks.Over.TheVariants as over
use Rattle.conn_requests.specs.declared.answers.Answer.{Answer}
use Rattle.conn_requests.specs.declared.answers.Answer.TheVariants as answer
use Rattle.conn_requests.specs.Codings.{is_coded}
use Rattle.conn_requests.specs.Names.{Named, nothing_named, named_with}
use Rattle.conn_requests.specs.Body.{asks_of, body_after}
use Rattle.conn_requests.specs.Ends.{end_answer, lost_answer}
use Rattle.conn_requests.specs.Decided.{Item, Answered, Played, Call, new_call, at_first, set_call, hear, take_frame, play, decided_of}

abbrev item : Named → Ask → Item
item named asked = record { stream = 1; named = named; asked = asked }

abbrev answered : Named → Ask → Answer → Answered
answered named asked given = record { item = item named asked; answer = given; now = pos 0 }

-- the end of a call, as an item
abbrev ends : Ask → List Item
ends asked = item nothing_named asked ∷ []

-- ---- whole frames

-- SETTINGS without pairs
abbrev settings : Frame
settings = frames.Settings false []

-- `:method` with this entry of the static table (131 is POST), `:scheme http` and `:path`
abbrev fields : (method : ℕ) → (path : List ℕ) → List ℕ
fields entry path = entry ∷ 134 ∷ 68 ∷ length path ∷ path

abbrev content_type : List ℕ
content_type = 95 ∷ 16 ∷ codes "application/grpc"

abbrev opened_by : List ℕ → Record
opened_by block = In (frames.Headers 1 false true block) ∷ In settings ∷ []

abbrev opened : (path : List ℕ) → Record
opened path = opened_by (fields 131 path ++ content_type)

abbrev get_path : List ℕ
get_path = codes "/google.cloud.bigquery.storage.v1.BigQueryWrite/GetWriteStream"

abbrev append_path : List ℕ
append_path = codes "/google.cloud.bigquery.storage.v1.BigQueryWrite/AppendRows"

abbrev read_path : List ℕ
read_path = codes "/google.cloud.bigquery.storage.v1.BigQueryRead/ReadRows"

abbrev body : (ended : Bool) → List ℕ → Frame
body ended bytes = frames.Body 1 ended bytes (length bytes)

abbrev get : List ℕ
get = 10 ∷ 1 ∷ 120 ∷ []

abbrev got : Answer
got = answer.Ends ((5 ∷ []) ∷ []) (record { code = 0; text = [] })

abbrev get_record : Record
get_record = In (body true (frame get)) ∷ opened get_path

-- a usual client's GetWriteStream is decided with its last DATA
getting : decided_of get_record [] ≡ ends (ask.Call method.GetWriteStream get)
unfolding play take_frame asks_of body_after is_coded named_with fault_by reset_by reset_behind is_live_with early_fault late_fault block_from fields_from field_at literal_at indexed_at string_at name_at entry_at static_table newest list_size is_bad is_pseudo has_late_pseudo has_unknown_pseudo is_repeated is_missing has_empty_path is_malformed path_of methods is_post is_grpc method_named split_of part_of frame prefix_of
getting = refl

reading : decided_of (In (body true (frame get)) ∷ opened read_path) [] ≡ ends (ask.Call method.ReadRows get)
unfolding play take_frame asks_of body_after is_coded named_with fault_by reset_by reset_behind is_live_with early_fault late_fault block_from fields_from field_at literal_at indexed_at string_at name_at entry_at static_table newest list_size is_bad is_pseudo has_late_pseudo has_unknown_pseudo is_repeated is_missing has_empty_path is_malformed path_of methods is_post is_grpc method_named split_of part_of frame prefix_of
reading = refl

-- the mark of a whole request stands behind its frame, and the answer behind that
getting_marked : (play (answered nothing_named (ask.Call method.GetWriteStream get) got ∷ []) get_record).marked ≡ Given 1 (Tail (trailers (record { code = 0; text = [] }))) ∷ Given 1 (Reply (frame (5 ∷ []))) ∷ Given 1 (Head response_head false) ∷ Whole ∷ get_record
unfolding play take_frame asks_of body_after is_coded named_with fault_by reset_by reset_behind is_live_with early_fault late_fault block_from fields_from field_at literal_at indexed_at string_at name_at entry_at static_table newest list_size is_bad is_pseudo has_late_pseudo has_unknown_pseudo is_repeated is_missing has_empty_path is_malformed path_of methods is_post is_grpc method_named split_of part_of frame prefix_of
getting_marked = refl

-- with the header block: the method of HTTP, the content type and the path
not_post : decided_of (opened_by (fields 130 get_path ++ content_type)) [] ≡ ends (ask.Ends over.NotPost)
unfolding play take_frame asks_of body_after is_coded named_with fault_by reset_by reset_behind is_live_with early_fault late_fault block_from fields_from field_at literal_at indexed_at string_at name_at entry_at static_table newest list_size is_bad is_pseudo has_late_pseudo has_unknown_pseudo is_repeated is_missing has_empty_path is_malformed path_of methods is_post is_grpc method_named split_of part_of frame prefix_of
not_post = refl

not_grpc : decided_of (opened_by (fields 131 get_path)) [] ≡ ends (ask.Ends over.NotGrpc)
unfolding play take_frame asks_of body_after is_coded named_with fault_by reset_by reset_behind is_live_with early_fault late_fault block_from fields_from field_at literal_at indexed_at string_at name_at entry_at static_table newest list_size is_bad is_pseudo has_late_pseudo has_unknown_pseudo is_repeated is_missing has_empty_path is_malformed path_of methods is_post is_grpc method_named split_of part_of frame prefix_of
not_grpc = refl

unknown_path : decided_of (opened (codes "/x")) [] ≡ ends (ask.Ends over.UnknownMethod)
unfolding play take_frame asks_of body_after is_coded named_with fault_by reset_by reset_behind is_live_with early_fault late_fault block_from fields_from field_at literal_at indexed_at string_at name_at entry_at static_table newest list_size is_bad is_pseudo has_late_pseudo has_unknown_pseudo is_repeated is_missing has_empty_path is_malformed path_of methods is_post is_grpc method_named split_of part_of frame prefix_of
unknown_path = refl

-- a malformed request is reset, and decides nothing
malformed : decided_of (opened_by (131 ∷ 134 ∷ [])) [] ≡ []
unfolding play take_frame asks_of body_after is_coded named_with fault_by reset_by reset_behind is_live_with early_fault late_fault block_from fields_from field_at literal_at indexed_at string_at name_at entry_at static_table newest list_size is_bad is_pseudo has_late_pseudo has_unknown_pseudo is_repeated is_missing has_empty_path is_malformed path_of methods is_post is_grpc method_named split_of part_of frame prefix_of
malformed = refl

-- what comes behind the end of a call decides nothing
behind_the_end : decided_of (In (body true (frame get)) ∷ opened (codes "/x")) [] ≡ ends (ask.Ends over.UnknownMethod)
unfolding play take_frame asks_of body_after is_coded named_with fault_by reset_by reset_behind is_live_with early_fault late_fault block_from fields_from field_at literal_at indexed_at string_at name_at entry_at static_table newest list_size is_bad is_pseudo has_late_pseudo has_unknown_pseudo is_repeated is_missing has_empty_path is_malformed path_of methods is_post is_grpc method_named split_of part_of frame prefix_of
behind_the_end = refl

-- an AppendRows call, and the client's trailers
appending : decided_of (In (frames.Headers 1 true true []) ∷ In (body false (frame [])) ∷ opened append_path) [] ≡ item nothing_named (ask.Append []) ∷ item nothing_named (ask.Ends over.Finished) ∷ []
unfolding play take_frame asks_of body_after is_coded named_with fault_by reset_by reset_behind is_live_with early_fault late_fault block_from fields_from field_at literal_at indexed_at string_at name_at entry_at static_table newest list_size is_bad is_pseudo has_late_pseudo has_unknown_pseudo is_repeated is_missing has_empty_path is_malformed path_of methods is_post is_grpc method_named split_of part_of frame prefix_of append_rows_request_of placed_from record_at tag_at len_at payload_at varint_at number_at
appending = refl

-- a frame that breaks a rule decides nothing, and neither does what comes behind it
behind_a_fault : decided_of (In (body true (frame get)) ∷ In (frames.Window 0 0) ∷ opened get_path) [] ≡ []
unfolding play take_frame asks_of body_after is_coded named_with fault_by reset_by reset_behind is_live_with early_fault late_fault block_from fields_from field_at literal_at indexed_at string_at name_at entry_at static_table newest list_size is_bad is_pseudo has_late_pseudo has_unknown_pseudo is_repeated is_missing has_empty_path is_malformed path_of methods is_post is_grpc method_named split_of part_of frame prefix_of
behind_a_fault = refl

-- behind a reset by the client nothing is decided
behind_a_reset : decided_of (In (body true (frame get)) ∷ In (frames.Reset 1 8) ∷ opened get_path) [] ≡ []
unfolding play take_frame asks_of body_after is_coded named_with fault_by reset_by reset_behind is_live_with early_fault late_fault block_from fields_from field_at literal_at indexed_at string_at name_at entry_at static_table newest list_size is_bad is_pseudo has_late_pseudo has_unknown_pseudo is_repeated is_missing has_empty_path is_malformed path_of methods is_post is_grpc method_named split_of part_of frame prefix_of
behind_a_reset = refl

-- ---- events of an AppendRows call on stream 1

abbrev started : List Answered → Played
started answers = set_call (at_first answers) 1 (Some (new_call method.AppendRows []))

abbrev hearing : List Answered → List ℕ → Played
hearing answers bytes = hear (started answers) (event.Body 1 bytes false)

-- the message names a write stream
abbrev naming : List ℕ
naming = 10 ∷ 1 ∷ 120 ∷ []

abbrev named_x : Named
named_x = record { stream = 120 ∷ []; schema = None }

-- what a message names counts for it and for those behind it
names : (hearing [] (frame [] ++ frame naming ++ frame [])).decided ≡ item nothing_named (ask.Append []) ∷ item named_x (ask.Append naming) ∷ item named_x (ask.Append []) ∷ []
unfolding play take_frame asks_of body_after is_coded named_with split_of part_of frame prefix_of append_rows_request_of placed_from record_at tag_at len_at payload_at varint_at number_at is_utf8 chars encode
names = refl

-- a message that can't be read ends the call, as one item
unreadable : (hearing [] (frame (0 ∷ []) ++ frame [])).decided ≡ ends (ask.Append (0 ∷ []))
unfolding play take_frame asks_of body_after is_coded named_with split_of part_of frame prefix_of append_rows_request_of placed_from record_at tag_at len_at payload_at varint_at number_at
unreadable = refl

unreadable_call : (hearing [] (frame (0 ∷ []) ++ frame [])).calls 1 ≡ None
unfolding play take_frame asks_of body_after is_coded named_with split_of part_of frame prefix_of append_rows_request_of placed_from record_at tag_at len_at payload_at varint_at number_at
unreadable_call = refl

-- an answer that is lost ends its call; the other answers are left over
lost : (hearing (answered nothing_named (ask.Append []) lost_answer ∷ answered nothing_named (ask.Append []) got ∷ []) (frame [] ++ frame [])).decided ≡ ends (ask.Append [])
unfolding play take_frame asks_of body_after is_coded named_with split_of part_of frame prefix_of append_rows_request_of placed_from record_at tag_at len_at payload_at varint_at number_at
lost = refl

lost_leaves : (hearing (answered nothing_named (ask.Append []) lost_answer ∷ answered nothing_named (ask.Append []) got ∷ []) (frame [] ++ frame [])).later ≡ answered nothing_named (ask.Append []) got ∷ []
unfolding play take_frame asks_of body_after is_coded named_with split_of part_of frame prefix_of append_rows_request_of placed_from record_at tag_at len_at payload_at varint_at number_at
lost_leaves = refl

-- HEADERS are given once
heads_once : (hearing (answered nothing_named (ask.Append []) (answer.Goes []) ∷ answered nothing_named (ask.Append []) (answer.Goes []) ∷ []) (frame [] ++ frame [])).marked ≡ Given 1 (Reply (frame [])) ∷ Given 1 (Reply (frame [])) ∷ Given 1 (Head response_head false) ∷ Whole ∷ []
unfolding play take_frame asks_of body_after is_coded named_with split_of part_of frame prefix_of append_rows_request_of placed_from record_at tag_at len_at payload_at varint_at number_at
heads_once = refl

-- a list of fields that is too large, and the answer to that
too_large : (hear (at_first (answered nothing_named (ask.Ends over.ListTooLarge) (end_answer over.ListTooLarge) ∷ [])) (event.TooLarge 1)).marked ≡ Given 1 (Head (http_only 431) true) ∷ Whole ∷ []
unfolding play take_frame asks_of body_after is_coded named_with split_of part_of frame prefix_of
too_large = refl

-- a reset ends the call
reset : (fold hear (started []) (event.Reset 1 8 ∷ event.Body 1 (frame []) true ∷ [])).decided ≡ []
unfolding play take_frame asks_of body_after is_coded named_with split_of part_of frame prefix_of append_rows_request_of placed_from record_at tag_at len_at payload_at varint_at number_at
reset = refl
