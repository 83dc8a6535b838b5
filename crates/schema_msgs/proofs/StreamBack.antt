-- A WriteStream and a CreateWriteStreamRequest that were written read back.
use Rattle.std.proofs.Common.{◌≡◌, ℕ, ℤ, ◌<◌, ◌^◌, List, ◌++◌, length, Option, Ok, refl, arith}
use Rattle.std.proofs.Math.Facts.{Fits-of_z}
use Rattle.std.specs.Int.{w64, cast_unsigned}
use Rattle.std.specs.List.{AllByRecursion}
use Rattle.std.specs.Option.{option_map}
use Rattle.proto_fields.specs.Record.{Record}
use Rattle.proto_fields.specs.Message.{message_of}
use Rattle.proto_fields.specs.Selection.{bytes_for, varint_for}
use Rattle.write_msgs.specs.declared.commit_parts.Timestamp.{Timestamp}
use Rattle.write_msgs.specs.Reading.{records_of, text_in, int64_in, int32_in, nested}
use Rattle.write_msgs.specs.Writing.{text_field, int_field, message_field}
use Rattle.write_msgs.specs.CommitParts.{timestamp_of}
use Rattle.write_msgs.specs.CommitPartsBytes.{timestamp_bytes}
use Rattle.write_msgs.proofs.ReadBack.{Numbered, records_back, numbered_both, text_numbered, message_numbered, varint_numbered, text_own, text_other, message_own, message_other, varint_own, varint_other, varint_payloads, text_varints, in_front, behind, sizes_of_two, text_back, int64_back, int32_back, wider, nested_back}
use Rattle.schema_msgs.specs.declared.schemas.TableSchema.{TableSchema}
use Rattle.schema_msgs.specs.declared.write_streams.WriteStream.{WriteStream}
use Rattle.schema_msgs.specs.Schema.{table_schema_of}
use Rattle.schema_msgs.specs.SchemaBytes.{table_schema_bytes}
use Rattle.schema_msgs.specs.Stream.{write_stream_of, create_write_stream_request_of}
use Rattle.schema_msgs.specs.StreamBytes.{write_stream_bytes, create_write_stream_request_bytes}
use Rattle.schema_msgs.specs.RoundTrip.{IsSchema, IsTime, IsStream, StreamsReadBack, CreateRequestsReadBack}
use Rattle.schema_msgs.proofs.SchemaBack.{message_varints, schemas_read_back}

time_from : (bytes : List ℕ) (records : List Record) (seconds nanos : ℤ) → records_of bytes ≡ Ok records → int64_in 1 records ≡ seconds → int32_in 2 records ≡ nanos
    → timestamp_of bytes ≡ Ok (record { seconds = seconds; nanos = nanos })
unfolding timestamp_of
time_from bytes records seconds nanos read p q = rw (read, p, q) refl

time_back : (moment : Timestamp) → IsTime moment → length (timestamp_bytes moment) < 2 ^ 32 → timestamp_of (timestamp_bytes moment) ≡ Ok moment
unfolding timestamp_bytes
time_back moment holds short =
    let one : List Record = int_field 1 moment.seconds in
    let two : List Record = int_field 2 moment.nanos in
    let rs : List Record = one ++ two in
    let v : ℕ = cast_unsigned w64 moment.seconds in
    let w : ℕ = cast_unsigned w64 moment.nanos in
    let numbered : AllByRecursion Numbered rs =
    numbered_both one two (varint_numbered 1 v (Fits-of_z holds.seconds).fits (omega arith) (omega arith)) (varint_numbered 2 w (Fits-of_z (wider moment.nanos holds.nanos)).fits (omega arith) (omega arith)) in
    time_from (message_of rs) rs moment.seconds moment.nanos (records_back rs numbered short)
    (int64_back 1 rs moment.seconds (in_front (varint_for 1) one two (varint_own 1 v refl) (varint_other 1 2 w refl)) holds.seconds)
    (int32_back 2 rs moment.nanos (behind (varint_for 2) one two (varint_other 2 1 v refl) (varint_own 2 w refl)) holds.nanos)

stream_from : (bytes : List ℕ) (records : List Record) (name : List ℕ) (stream_type : ℤ) (created committed : Option Timestamp) (schema : Option TableSchema) → records_of bytes ≡ Ok records
    → text_in 1 records ≡ Ok name → int32_in 2 records ≡ stream_type → nested timestamp_of 3 bytes records ≡ Ok created → nested timestamp_of 4 bytes records ≡ Ok committed
    → nested table_schema_of 5 bytes records ≡ Ok schema
    → write_stream_of bytes ≡ Ok (record { name = name; stream_type = stream_type; create_time = created; commit_time = committed; table_schema = schema })
unfolding write_stream_of
stream_from bytes records name stream_type created committed schema read p q r s t = rw (read, r, s, p, t, q) refl

pub streams_read_back : StreamsReadBack
unfolding write_stream_bytes
streams_read_back stream holds short =
    let t : List ℕ = stream.name in
    let v : ℕ = cast_unsigned w64 stream.stream_type in
    let a : Option (List ℕ) = option_map timestamp_bytes stream.create_time in
    let b : Option (List ℕ) = option_map timestamp_bytes stream.commit_time in
    let s : Option (List ℕ) = option_map table_schema_bytes stream.table_schema in
    let one : List Record = text_field 1 t in
    let two : List Record = int_field 2 stream.stream_type in
    let three : List Record = message_field 3 a in
    let four : List Record = message_field 4 b in
    let five : List Record = message_field 5 s in
    let rs : List Record = one ++ two ++ three ++ four ++ five in
    let numbered : AllByRecursion Numbered rs =
    numbered_both (one ++ two ++ three ++ four) five
    (
    numbered_both (one ++ two ++ three) four
    (
    numbered_both (one ++ two) three
    (numbered_both one two (text_numbered 1 t (omega arith) (omega arith)) (varint_numbered 2 v (Fits-of_z (wider stream.stream_type holds.stream_type)).fits (omega arith) (omega arith)))
    (message_numbered 3 a (omega arith) (omega arith))
    )
    (message_numbered 4 b (omega arith) (omega arith))
    )
    (message_numbered 5 s (omega arith) (omega arith)) in
    let read : records_of (message_of rs) ≡ Ok rs = records_back rs numbered short in
    let whole = sizes_of_two (one ++ two ++ three ++ four) five in
    let times = sizes_of_two (one ++ two ++ three) four in
    let front = sizes_of_two (one ++ two) three in
    let name : text_in 1 rs ≡ Ok t =
    text_back 1 rs t
    (in_front (bytes_for 1) (one ++ two ++ three ++ four) five (in_front (bytes_for 1) (one ++ two ++ three) four (in_front (bytes_for 1) (one ++ two) three (in_front (bytes_for 1) one two (text_own 1 t refl) (varint_payloads 1 2 v)) (message_other 1 3 a refl)) (message_other 1 4 b refl)) (message_other 1 5 s refl)) holds.name in
    let type_code : int32_in 2 rs ≡ stream.stream_type =
    int32_back 2 rs stream.stream_type
    (in_front (varint_for 2) (one ++ two ++ three ++ four) five (in_front (varint_for 2) (one ++ two ++ three) four (in_front (varint_for 2) (one ++ two) three (behind (varint_for 2) one two (text_varints 2 1 t) (varint_own 2 v refl)) (message_varints 2 3 a)) (message_varints 2 4 b)) (message_varints 2 5 s)) holds.stream_type in
    let created : nested timestamp_of 3 (message_of rs) rs ≡ Ok stream.create_time =
    nested_back timestamp_of timestamp_bytes IsTime 3 (message_of rs) rs stream.create_time time_back
    (in_front (bytes_for 3) (one ++ two ++ three ++ four) five (in_front (bytes_for 3) (one ++ two ++ three) four (behind (bytes_for 3) (one ++ two) three (behind (bytes_for 3) one two (text_other 3 1 t refl) (varint_payloads 3 2 v)) (message_own 3 a refl)) (message_other 3 4 b refl)) (message_other 3 5 s refl)) (omega (arith, short, whole, times, front)) holds.create_time in
    let committed : nested timestamp_of 4 (message_of rs) rs ≡ Ok stream.commit_time =
    nested_back timestamp_of timestamp_bytes IsTime 4 (message_of rs) rs stream.commit_time time_back
    (in_front (bytes_for 4) (one ++ two ++ three ++ four) five (behind (bytes_for 4) (one ++ two ++ three) four (behind (bytes_for 4) (one ++ two) three (behind (bytes_for 4) one two (text_other 4 1 t refl) (varint_payloads 4 2 v)) (message_other 4 3 a refl)) (message_own 4 b refl)) (message_other 4 5 s refl)) (omega (arith, short, whole, times)) holds.commit_time in
    let schema : nested table_schema_of 5 (message_of rs) rs ≡ Ok stream.table_schema =
    nested_back table_schema_of table_schema_bytes IsSchema 5 (message_of rs) rs stream.table_schema schemas_read_back
    (behind (bytes_for 5) (one ++ two ++ three ++ four) five (behind (bytes_for 5) (one ++ two ++ three) four (behind (bytes_for 5) (one ++ two) three (behind (bytes_for 5) one two (text_other 5 1 t refl) (varint_payloads 5 2 v)) (message_other 5 3 a refl)) (message_other 5 4 b refl)) (message_own 5 s refl)) (omega (arith, short, whole)) holds.table_schema in
    stream_from (message_of rs) rs t stream.stream_type stream.create_time stream.commit_time stream.table_schema read name type_code created committed schema

request_from : (bytes : List ℕ) (records : List Record) (parent : List ℕ) (stream : Option WriteStream) → records_of bytes ≡ Ok records → text_in 1 records ≡ Ok parent
    → nested write_stream_of 2 bytes records ≡ Ok stream → create_write_stream_request_of bytes ≡ Ok (record { parent = parent; write_stream = stream })
unfolding create_write_stream_request_of
request_from bytes records parent stream read p q = rw (read, p, q) refl

pub create_requests_read_back : CreateRequestsReadBack
unfolding create_write_stream_request_bytes
create_requests_read_back request holds short =
    let s : Option (List ℕ) = option_map write_stream_bytes request.write_stream in
    let one : List Record = text_field 1 request.parent in
    let two : List Record = message_field 2 s in
    let rs : List Record = one ++ two in
    let read : records_of (message_of rs) ≡ Ok rs =
    records_back rs (numbered_both one two (text_numbered 1 request.parent (omega arith) (omega arith)) (message_numbered 2 s (omega arith) (omega arith))) short in
    let sizes = sizes_of_two one two in
    let parent : text_in 1 rs ≡ Ok request.parent =
    text_back 1 rs request.parent (in_front (bytes_for 1) one two (text_own 1 request.parent refl) (message_other 1 2 s refl)) holds.parent in
    let stream : nested write_stream_of 2 (message_of rs) rs ≡ Ok request.write_stream =
    nested_back write_stream_of write_stream_bytes IsStream 2 (message_of rs) rs request.write_stream streams_read_back
    (behind (bytes_for 2) one two (text_other 2 1 request.parent refl) (message_own 2 s refl)) (omega (arith, sizes, short)) holds.write_stream in
    request_from (message_of rs) rs request.parent request.write_stream read parent stream
