-- The messages of SplitReadStream and ReadRows read back.
use Rattle.std.proofs.Common.{◌≡◌, ℕ, ℤ, List, ◌++◌, Option, Some, None, IfSome, Ok, refl, arith}
use Rattle.std.proofs.Math.Facts.{Fits-of_z}
use Rattle.std.specs.Int.{w64, cast_unsigned}
use Rattle.std.specs.List.{AllByRecursion}
use Rattle.std.specs.Option.{option_map}
use Rattle.proto_fields.specs.Record.{Record}
use Rattle.proto_fields.specs.Message.{message_of}
use Rattle.proto_fields.specs.Selection.{bytes_for, varint_for}
use Rattle.write_msgs.specs.Reading.{records_of, text_in, int64_in, nested}
use Rattle.write_msgs.specs.Writing.{text_field, int_field, message_field}
use Rattle.write_msgs.proofs.ReadBack.{Numbered, records_back, numbered_both, text_numbered, message_numbered, varint_numbered, text_own, message_own, message_other, varint_own, varint_payloads, text_varints, in_front, behind, sizes_of_two, text_back, int64_back, nested_back}
use Rattle.read_msgs.specs.declared.rows.AvroRows.{AvroRows}
use Rattle.read_msgs.specs.declared.rows.AvroSchema.{AvroSchema}
use Rattle.read_msgs.specs.declared.streams.ReadStream.{ReadStream}
use Rattle.read_msgs.specs.Rows.{avro_rows_of, avro_schema_of, read_rows_request_of, read_rows_response_of}
use Rattle.read_msgs.specs.RowsBytes.{avro_rows_bytes, avro_schema_bytes, read_rows_request_bytes, read_rows_response_bytes}
use Rattle.read_msgs.specs.Streams.{read_stream_of, split_read_stream_request_of, split_read_stream_response_of}
use Rattle.read_msgs.specs.StreamsBytes.{read_stream_bytes, split_read_stream_request_bytes, split_read_stream_response_bytes}
use Rattle.read_msgs.specs.RoundTrip.{IsAvroSchema, IsReadStream, SplitRequestsReadBack, SplitResponsesReadBack, RowsRequestsReadBack, RowsResponsesReadBack}
use Rattle.read_msgs.proofs.FieldLemmas.{message_varints}
use Rattle.read_msgs.proofs.PartsBack.{rows_back, schema_back, stream_back}

split_from : (bytes : List ℕ) (records : List Record) (name : List ℕ) → records_of bytes ≡ Ok records → text_in 1 records ≡ Ok name → split_read_stream_request_of bytes ≡ Ok (record { name = name })
unfolding split_read_stream_request_of
split_from bytes records name read p = rw (read, p) refl

pub split_requests_back : SplitRequestsReadBack
unfolding split_read_stream_request_bytes
split_requests_back request holds short =
    let t : List ℕ = request.name in
    let rs : List Record = text_field 1 t in
    split_from (message_of rs) rs t (records_back rs (text_numbered 1 t (omega arith) (omega arith)) short) (text_back 1 rs t (text_own 1 t refl) holds.name)

halves_from : (bytes : List ℕ) (records : List Record) (primary remainder : Option ReadStream) → records_of bytes ≡ Ok records → nested read_stream_of 1 bytes records ≡ Ok primary
    → nested read_stream_of 2 bytes records ≡ Ok remainder → split_read_stream_response_of bytes ≡ Ok (record { primary_stream = primary; remainder_stream = remainder })
unfolding split_read_stream_response_of
halves_from bytes records primary remainder read p q = rw (read, p, q) refl

pub split_responses_back : SplitResponsesReadBack
unfolding split_read_stream_response_bytes
split_responses_back response holds short =
    let a : Option (List ℕ) = option_map read_stream_bytes response.primary_stream in
    let b : Option (List ℕ) = option_map read_stream_bytes response.remainder_stream in
    let one : List Record = message_field 1 a in
    let two : List Record = message_field 2 b in
    let rs : List Record = one ++ two in
    let read : records_of (message_of rs) ≡ Ok rs =
    records_back rs (numbered_both one two (message_numbered 1 a (omega arith) (omega arith)) (message_numbered 2 b (omega arith) (omega arith))) short in
    let sizes = sizes_of_two one two in
    halves_from (message_of rs) rs response.primary_stream response.remainder_stream read
    (
    nested_back read_stream_of read_stream_bytes IsReadStream 1 (message_of rs) rs response.primary_stream stream_back
    (in_front (bytes_for 1) one two (message_own 1 a refl) (message_other 1 2 b refl)) (omega (arith, sizes, short)) holds.primary_stream
    )
    (
    nested_back read_stream_of read_stream_bytes IsReadStream 2 (message_of rs) rs response.remainder_stream stream_back
    (behind (bytes_for 2) one two (message_other 2 1 a refl) (message_own 2 b refl)) (omega (arith, sizes, short)) holds.remainder_stream
    )

request_from : (bytes : List ℕ) (records : List Record) (name : List ℕ) (offset : ℤ) → records_of bytes ≡ Ok records → text_in 1 records ≡ Ok name → int64_in 2 records ≡ offset
    → read_rows_request_of bytes ≡ Ok (record { read_stream = name; offset = offset })
unfolding read_rows_request_of
request_from bytes records name offset read p q = rw (read, p, q) refl

pub rows_requests_back : RowsRequestsReadBack
unfolding read_rows_request_bytes
rows_requests_back request holds short =
    let t : List ℕ = request.read_stream in
    let v : ℕ = cast_unsigned w64 request.offset in
    let one : List Record = text_field 1 t in
    let two : List Record = int_field 2 request.offset in
    let rs : List Record = one ++ two in
    let numbered : AllByRecursion Numbered rs =
    numbered_both one two (text_numbered 1 t (omega arith) (omega arith)) (varint_numbered 2 v (Fits-of_z holds.offset).fits (omega arith) (omega arith)) in
    request_from (message_of rs) rs t request.offset (records_back rs numbered short)
    (text_back 1 rs t (in_front (bytes_for 1) one two (text_own 1 t refl) (varint_payloads 1 2 v)) holds.read_stream)
    (int64_back 2 rs request.offset (behind (varint_for 2) one two (text_varints 2 1 t) (varint_own 2 v refl)) holds.offset)

response_from : (bytes : List ℕ) (records : List Record) (rows : Option AvroRows) (row_count : ℤ) (schema : Option AvroSchema) → records_of bytes ≡ Ok records
    → nested avro_rows_of 3 bytes records ≡ Ok rows → nested avro_schema_of 7 bytes records ≡ Ok schema → int64_in 6 records ≡ row_count
    → read_rows_response_of bytes ≡ Ok (record { avro_rows = rows; row_count = row_count; avro_schema = schema })
unfolding read_rows_response_of
response_from bytes records rows row_count schema read p q r = rw (read, p, q, r) refl

any : {X : Type 0} (o : Option X) → IfSome o (λ x. Unit {0})
any None = tt
any (Some x) = tt

pub rows_responses_back : RowsResponsesReadBack
unfolding read_rows_response_bytes
rows_responses_back response holds short =
    let a : Option (List ℕ) = option_map avro_rows_bytes response.avro_rows in
    let v : ℕ = cast_unsigned w64 response.row_count in
    let s : Option (List ℕ) = option_map avro_schema_bytes response.avro_schema in
    let three : List Record = message_field 3 a in
    let six : List Record = int_field 6 response.row_count in
    let seven : List Record = message_field 7 s in
    let front : List Record = three ++ six in
    let rs : List Record = front ++ seven in
    let numbered : AllByRecursion Numbered rs =
    numbered_both front seven
    (numbered_both three six (message_numbered 3 a (omega arith) (omega arith)) (varint_numbered 6 v (Fits-of_z holds.row_count).fits (omega arith) (omega arith)))
    (message_numbered 7 s (omega arith) (omega arith)) in
    let whole = sizes_of_two front seven in
    let sizes = sizes_of_two three six in
    response_from (message_of rs) rs response.avro_rows response.row_count response.avro_schema (records_back rs numbered short)
    (
    nested_back avro_rows_of avro_rows_bytes (λ x. Unit {0}) 3 (message_of rs) rs response.avro_rows rows_back
    (in_front (bytes_for 3) front seven (in_front (bytes_for 3) three six (message_own 3 a refl) (varint_payloads 3 6 v)) (message_other 3 7 s refl)) (omega (arith, short, whole, sizes)) (any response.avro_rows)
    )
    (
    nested_back avro_schema_of avro_schema_bytes IsAvroSchema 7 (message_of rs) rs response.avro_schema schema_back
    (behind (bytes_for 7) front seven (behind (bytes_for 7) three six (message_other 7 3 a refl) (varint_payloads 7 6 v)) (message_own 7 s refl)) (omega (arith, short, whole)) holds.avro_schema
    )
    (int64_back 6 rs response.row_count (in_front (varint_for 6) front seven (behind (varint_for 6) three six (message_varints 6 3 a) (varint_own 6 v refl)) (message_varints 6 7 s)) holds.row_count)
