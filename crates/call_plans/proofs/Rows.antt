-- Rows worked out by hand: what requests to one table ask, and what they are answered while its history is empty.
use Rattle.std.proofs.Common.{◌≡◌, ℕ, ℤ, pos, negsuc, Option, List, [], ◌∷◌, ◌++◌, Some, None, Ok, refl}
use Rattle.std.specs.Prelude.{codes}
use Rattle.std.specs.Fmt.{digits}
use Rattle.column_types.specs.declared.column.Column.{Column}
use Rattle.column_types.specs.declared.column.Kind.TheVariants as kinds
use Rattle.column_types.specs.declared.column.Mode.TheVariants as modes
use Rattle.grpc_meta.specs.declared.methods.Method.TheVariants as method
use Rattle.proto_fields.specs.Message.{placed_from}
use Rattle.proto_fields.specs.Record.{record_at, tag_at, len_at, payload_at}
use Rattle.proto_fields.specs.Varint.{varint_at, number_at, varint_of, number_of as groups_of}
use Rattle.resource_names.specs.Number.{number_of}
use Rattle.resource_names.specs.Table.{table_name_of}
use Rattle.resource_names.specs.Write.{write_name_of, id_of}
use Rattle.table_spec.specs.declared.spec.TableSpec.{TableSpec}
use Rattle.table_model.specs.declared.reasons.Why.TheVariants as why
use Rattle.table_model.specs.Answer.{answer_by}
use Rattle.write_msgs.specs.CommitPartsBytes.{timestamp_bytes, storage_error_bytes}
use Rattle.write_msgs.specs.CommitsBytes.{batch_commit_write_streams_response_bytes}
use Rattle.write_msgs.specs.Request.{append_rows_request_of}
use Rattle.write_msgs.specs.ResponseBytes.{append_rows_response_bytes, status_bytes}
use Rattle.write_msgs.specs.Streams.{get_write_stream_request_of, finalize_write_stream_request_of}
use Rattle.schema_msgs.specs.SchemaBytes.{table_schema_bytes, field_records}
use Rattle.schema_msgs.specs.StreamBytes.{write_stream_bytes}
use Rattle.filter.specs.Computed.{reads_from, restriction_of}
use Rattle.filter.specs.Machine.{end, operand_at}
use Rattle.resource_names.specs.Project.{project_name_of}
use Rattle.resource_names.specs.Read.{read_name_of, place_of}
use Rattle.table_model.specs.Sessions.{session_of}
use Rattle.write_msgs.specs.declared.commit_parts.Timestamp.{Timestamp}
use Rattle.read_msgs.specs.declared.options.TableReadOptions.{TableReadOptions}
use Rattle.read_msgs.specs.declared.sessions.ReadSession.{ReadSession}
use Rattle.read_msgs.specs.SessionsBytes.{read_session_bytes}
use Rattle.open_tables.specs.Plans.{Plan, Fixed, At}
use Rattle.conn_requests.specs.declared.asks.Ask.TheVariants as ask
use Rattle.conn_requests.specs.declared.answers.Answer.{Answer}
use Rattle.conn_requests.specs.declared.answers.Answer.TheVariants as answer
use Rattle.conn_requests.specs.Ends.{status_only}
use Rattle.conn_requests.specs.Names.{Named, nothing_named}
use Rattle.call_plans.specs.Endings.{responded, refused_for}
use Rattle.call_plans.specs.Moments.{timestamp}
use Rattle.call_plans.specs.Columns.{fields_of}
use Rattle.call_plans.specs.Appending.{append_plan, append_by}
use Rattle.call_plans.specs.Creating.{create_by}
use Rattle.call_plans.specs.Getting.{get_plan, get_by}
use Rattle.call_plans.specs.Finalising.{finalise_plan, finalise_by}
use Rattle.call_plans.specs.Flushing.{flush_by}
use Rattle.call_plans.specs.Twice.{repeats}
use Rattle.call_plans.specs.Committing.{commit_by}
use Rattle.call_plans.specs.Sessions.{create_session_by}
use Rattle.call_plans.specs.Splitting.{split_by}
use Rattle.call_plans.specs.Reading.{read_by, read_answer}
use Rattle.call_plans.specs.Plans.{plan}

-- ---- one table

abbrev table : List ℕ
table = codes "projects/p/datasets/d/tables/t"

abbrev id : Column
id = record { name = codes "id"; kind = kinds.Int64; mode = modes.Required }

abbrev specs : List TableSpec
specs = record { name = table; schema = id ∷ [] } ∷ []

-- the reading of the clock, a second and a half after the start of 1970
abbrev now : ℤ
now = pos 1_500_000

-- what the first caller of a new table is answered
abbrev first_answer : Plan Answer → Answer
first_answer (Fixed due) = due
first_answer (At place turn) = (turn [] 1 now).answer

-- ---- messages that can't be read

-- the first field has no wire type of Protocol Buffers
unreadable_call : plan specs nothing_named (ask.Call method.FinalizeWriteStream (11 ∷ [])) ≡ Fixed (status_only 3 (codes "malformed message at 0"))
unfolding plan finalise_plan finalize_write_stream_request_of placed_from record_at tag_at len_at payload_at varint_at number_at digits
unreadable_call = refl

-- arrow_rows
unserved_rows : plan specs nothing_named (ask.Append (42 ∷ 0 ∷ [])) ≡ Fixed (status_only 12 (codes "unsupported field 5"))
unfolding plan append_plan append_rows_request_of placed_from record_at tag_at len_at payload_at varint_at number_at digits
unserved_rows = refl

-- ---- AppendRows

-- a first message without a name
no_name : plan specs nothing_named (ask.Append []) ≡ Fixed (answer.Goes (18 ∷ 21 ∷ 8 ∷ 3 ∷ 18 ∷ 17 ∷ codes "bad resource name"))
unfolding plan append_plan append_rows_request_of placed_from write_name_of append_rows_response_bytes status_bytes varint_of groups_of
no_name = refl

abbrev named : List ℕ → Named
named stream = record { stream = stream; schema = None }

-- the response names the stream where the message itself does
no_table : append_by specs (named (codes "projects/p/datasets/d/tables/u/_default")) (Ok (record { write_stream = codes "w"; offset = None; proto_rows = None }))
    ≡ Fixed (answer.Goes (18 ∷ 17 ∷ 8 ∷ 5 ∷ 18 ∷ 13 ∷ codes "no such table" ++ 42 ∷ 1 ∷ codes "w"))
unfolding write_name_of append_rows_response_bytes status_bytes varint_of groups_of
no_table = refl

no_schema : first_answer (append_by specs (named (table ++ codes "/_default")) (Ok (record { write_stream = []; offset = None; proto_rows = None })))
    ≡ answer.Goes (18 ∷ 20 ∷ 8 ∷ 3 ∷ 18 ∷ 16 ∷ codes "no writer schema")
unfolding write_name_of answer_by append_rows_response_bytes status_bytes varint_of groups_of
no_schema = refl

-- that the stream isn't there counts before what is wrong with the rows
no_stream : first_answer (append_by specs (named (table ++ codes "/streams/s1")) (Ok (record { write_stream = []; offset = None; proto_rows = None })))
    ≡ answer.Goes (18 ∷ 24 ∷ 8 ∷ 5 ∷ 18 ∷ 20 ∷ codes "no such write stream")
unfolding write_name_of id_of number_of answer_by append_rows_response_bytes status_bytes varint_of groups_of digits
no_stream = refl

-- ---- GetWriteStream

get_nothing : plan specs nothing_named (ask.Call method.GetWriteStream []) ≡ Fixed (status_only 3 (codes "bad resource name"))
unfolding plan get_plan get_write_stream_request_of placed_from write_name_of
get_nothing = refl

-- the default stream is COMMITTED without times; its name is told in the form with `/streams/`
get_default : first_answer (get_by specs (Ok (record { name = table ++ codes "/_default"; view = pos 0 })))
    ≡ responded (10 ∷ 47 ∷ table ++ codes "/streams/_default" ++ 16 ∷ 1 ∷ [])
unfolding write_name_of answer_by write_stream_bytes varint_of groups_of
get_default = refl

-- the schema's one field: `id`, INT64, REQUIRED
abbrev schema : List ℕ
schema = 42 ∷ 10 ∷ 10 ∷ 8 ∷ 10 ∷ 2 ∷ codes "id" ++ 16 ∷ 2 ∷ 24 ∷ 2 ∷ []

get_full : first_answer (get_by specs (Ok (record { name = table ++ codes "/_default"; view = pos 2 })))
    ≡ responded (10 ∷ 47 ∷ table ++ codes "/streams/_default" ++ 16 ∷ 1 ∷ schema)
unfolding write_name_of answer_by fields_of write_stream_bytes table_schema_bytes field_records varint_of groups_of
get_full = refl

-- ---- CreateWriteStream

create_nothing : create_by specs (Ok (record { parent = table; write_stream = None })) ≡ Fixed (status_only 3 (codes "bad stream type"))
unfolding table_name_of
create_nothing = refl

-- half a second is 500,000,000 nanoseconds
abbrev moment : List ℕ
moment = 8 ∷ 8 ∷ 1 ∷ 16 ∷ 128 ∷ 202 ∷ 181 ∷ 238 ∷ 1 ∷ []

abbrev create : (kind : ℤ) → Answer
create kind =
    first_answer (create_by specs (Ok (record {
      parent = table;
      write_stream = Some (record { name = []; stream_type = kind; create_time = None; commit_time = None; table_schema = None });
    })))

create_committed : create (pos 1) ≡ responded (10 ∷ 41 ∷ table ++ codes "/streams/s1" ++ 16 ∷ 1 ∷ 26 ∷ moment ++ 34 ∷ moment ++ schema)
unfolding table_name_of answer_by fields_of write_stream_bytes timestamp_bytes table_schema_bytes field_records varint_of groups_of digits
create_committed = refl

-- only a COMMITTED stream is committed from the start
create_pending : create (pos 2) ≡ responded (10 ∷ 41 ∷ table ++ codes "/streams/s1" ++ 16 ∷ 2 ∷ 26 ∷ moment ++ schema)
unfolding table_name_of answer_by fields_of write_stream_bytes timestamp_bytes table_schema_bytes field_records varint_of groups_of digits
create_pending = refl

create_other : create (pos 4) ≡ status_only 3 (codes "bad stream type")
unfolding table_name_of
create_other = refl

-- a microsecond before 1970
before_1970 : timestamp (negsuc 0) ≡ record { seconds = negsuc 0; nanos = pos 999_999_000 }
before_1970 = refl

-- ---- FinalizeWriteStream

finalise_unknown : first_answer (finalise_by specs (Ok (record { name = table ++ codes "/streams/s1" }))) ≡ status_only 5 (codes "no such write stream")
unfolding write_name_of id_of number_of answer_by digits
finalise_unknown = refl

finalise_default : first_answer (finalise_by specs (Ok (record { name = table ++ codes "/_default" }))) ≡ status_only 3 (codes "wrong stream type")
unfolding write_name_of answer_by
finalise_default = refl

-- ---- FlushRows

flush_default : first_answer (flush_by specs (Ok (record { write_stream = table ++ codes "/_default"; offset = Some (pos 0) }))) ≡ status_only 3 (codes "wrong stream type")
unfolding write_name_of answer_by
flush_default = refl

-- ---- BatchCommitWriteStreams

abbrev commit : List (List ℕ) → Answer
commit names = first_answer (commit_by specs (Ok (record { parent = table; write_streams = names })))

-- one bad name counts before that none is there
commit_bad : commit (codes "x" ∷ []) ≡ status_only 3 (codes "bad resource name")
unfolding table_name_of write_name_of
commit_bad = refl

commit_none : commit [] ≡ status_only 3 (codes "no streams named")
unfolding table_name_of
commit_none = refl

commit_other : commit (codes "projects/p/datasets/d/tables/u/_default" ∷ []) ≡ status_only 3 (codes "stream of another table")
unfolding table_name_of write_name_of
commit_other = refl

-- both name the default stream
commit_twice : commit ((table ++ codes "/_default") ∷ (table ++ codes "/streams/_default") ∷ []) ≡ status_only 3 (codes "stream named twice")
unfolding table_name_of write_name_of id_of answer_by repeats
commit_twice = refl

-- an id that no stream has names the same only by the same text
commit_unknown_twice : commit ((table ++ codes "/streams/x") ∷ (table ++ codes "/streams/x") ∷ []) ≡ status_only 3 (codes "stream named twice")
unfolding table_name_of write_name_of id_of number_of repeats digits
commit_unknown_twice = refl

-- the errors stand in the request's order, and name the streams as it spells them
commit_unknown : commit ((table ++ codes "/streams/x") ∷ (table ++ codes "/_default") ∷ [])
    ≡ responded (
    18 ∷ 62 ∷ 8 ∷ 3 ∷ 18 ∷ 40 ∷ table ++ codes "/streams/x" ++ 26 ∷ 16 ∷ codes "stream not found"
    ++ 18 ∷ 65 ∷ 8 ∷ 4 ∷ 18 ∷ 39 ∷ table ++ codes "/_default" ++ 26 ∷ 20 ∷ codes "not a pending stream"
    )
unfolding table_name_of write_name_of id_of number_of answer_by repeats batch_commit_write_streams_response_bytes storage_error_bytes varint_of groups_of digits
commit_unknown = refl

-- ---- CreateReadSession

-- with AVRO, a snapshot or none, and options or none
abbrev asked : Option Timestamp → Option TableReadOptions → ReadSession
asked time options = record {
  name = [];
  expire_time = None;
  data_format = pos 1;
  avro_schema = None;
  table = table;
  table_modifiers = Some (record { snapshot_time = time });
  read_options = options;
  streams = [];
}

abbrev begin : ReadSession → (count : ℤ) → Answer
begin session count = first_answer (create_session_by specs (Ok (record { parent = codes "projects/q"; read_session = Some session; max_stream_count = count })))

session_nothing : create_session_by specs (Ok (record { parent = codes "projects/q"; read_session = None; max_stream_count = pos 0 })) ≡ Fixed (status_only 3 (codes "bad resource name"))
unfolding project_name_of table_name_of
session_nothing = refl

-- a session of a new table has one read stream, without a row; it expires six hours after it was begun
session_begun : begin (asked None None) (pos 0)
    ≡ responded (read_session_bytes (record {
      name = codes "projects/q/locations/local/sessions/t0-1";
      expire_time = Some (record { seconds = pos 21_601; nanos = pos 500_000_000 });
      data_format = pos 1;
      avro_schema = Some (record { schema = codes "{\"type\":\"record\",\"name\":\"__root__\",\"fields\":[{\"name\":\"id\",\"type\":\"long\"}]}" });
      table = table;
      table_modifiers = None;
      read_options = None;
      streams = record { name = codes "projects/q/locations/local/sessions/t0-1/streams/0" } ∷ [];
    }))
unfolding project_name_of table_name_of restriction_of reads_from end operand_at answer_by digits
session_begun = refl

-- a billion nanoseconds are a second
bad_time : begin (asked (Some (record { seconds = pos 0; nanos = pos 1_000_000_000 })) None) (pos 0) ≡ status_only 3 (codes "bad snapshot time")
unfolding project_name_of table_name_of
bad_time = refl

-- the time counts before the number of read streams, and that before the options
negative_count : begin (asked (Some (record { seconds = pos 0; nanos = pos 999_999_999 })) (Some (record { selected_fields = codes "no" ∷ []; row_restriction = [] }))) (negsuc 0)
    ≡ status_only 3 (codes "negative stream count")
unfolding project_name_of table_name_of
negative_count = refl

unknown_field : begin (asked None (Some (record { selected_fields = codes "ID" ∷ codes "no" ∷ []; row_restriction = codes "(" }))) (pos 0) ≡ refused_for (why.UnknownColumn (codes "no"))
unfolding project_name_of table_name_of
unknown_field = refl

-- ---- ReadRows and SplitReadStream

-- the first table has no session yet, and there is no second table
abbrev read_of : List ℕ → Plan Answer
read_of name = read_by specs (Ok (record { read_stream = name; offset = negsuc 0 }))

no_session : first_answer (read_of (codes "projects/q/locations/local/sessions/t0-1/streams/0")) ≡ status_only 5 (codes "no such read stream")
unfolding read_name_of place_of number_of digits read_answer session_of
no_session = refl

no_second_table : read_of (codes "projects/q/locations/local/sessions/t1-1/streams/0") ≡ Fixed (status_only 5 (codes "no such read stream"))
unfolding read_name_of place_of number_of digits
no_second_table = refl

elsewhere : split_by specs (Ok (record { name = codes "projects/q/locations/us/sessions/t0-1/streams/0" })) ≡ Fixed (status_only 5 (codes "no such read stream"))
unfolding read_name_of place_of
elsewhere = refl

no_read_name : split_by specs (Ok (record { name = codes "projects/q/locations/local/sessions/t0-1" })) ≡ Fixed (status_only 3 (codes "bad resource name"))
unfolding read_name_of
no_read_name = refl
