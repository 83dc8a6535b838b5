-- The messages by which a write stream is got, finalized and flushed read back.
use Rattle.std.proofs.Common.{◌≡◌, ℕ, ℤ, List, ◌++◌, Option, Ok, refl, arith}
use Rattle.std.proofs.Math.Facts.{Fits-of_z}
use Rattle.std.specs.Prelude.{FitsSigned}
use Rattle.std.specs.Int.{w64, cast_unsigned}
use Rattle.std.specs.List.{AllByRecursion}
use Rattle.std.specs.Option.{option_map}
use Rattle.proto_fields.specs.Record.{Record}
use Rattle.proto_fields.specs.Message.{message_of}
use Rattle.proto_fields.specs.Selection.{bytes_for, varint_for}
use Rattle.write_msgs.specs.Reading.{records_of, text_in, int64_in, int32_in, nested}
use Rattle.write_msgs.specs.Writing.{text_field, int_field, message_field}
use Rattle.write_msgs.specs.Request.{int64_value_of}
use Rattle.write_msgs.specs.RequestBytes.{int64_value_bytes}
use Rattle.write_msgs.specs.Streams.{get_write_stream_request_of, finalize_write_stream_request_of, finalize_write_stream_response_of, flush_rows_request_of, flush_rows_response_of}
use Rattle.write_msgs.specs.StreamsBytes.{get_write_stream_request_bytes, finalize_write_stream_request_bytes, finalize_write_stream_response_bytes, flush_rows_request_bytes, flush_rows_response_bytes}
use Rattle.write_msgs.proofs.ReadBack.{Numbered, records_back, numbered_both, text_numbered, message_numbered, varint_numbered, text_own, text_other, message_own, message_other, varint_own, varint_payloads, text_varints, in_front, behind, sizes_of_two, text_back, int64_back, int32_back, wider, nested_back}
use Rattle.write_msgs.proofs.RequestBack.{int64_value_back}
use Rattle.message_laws.specs.RoundTrip.{GetRequestsReadBack, FinalizeRequestsReadBack, FinalizeResponsesReadBack, FlushRequestsReadBack, FlushResponsesReadBack}

get_from : (bytes : List ℕ) (records : List Record) (name : List ℕ) (view : ℤ) → records_of bytes ≡ Ok records → text_in 1 records ≡ Ok name → int32_in 3 records ≡ view
    → get_write_stream_request_of bytes ≡ Ok (record { name = name; view = view })
unfolding get_write_stream_request_of
get_from bytes records name view read p q = rw (read, p, q) refl

pub get_requests_read_back : GetRequestsReadBack
unfolding get_write_stream_request_bytes
get_requests_read_back request holds short =
    let t : List ℕ = request.name in
    let v : ℕ = cast_unsigned w64 request.view in
    let one : List Record = text_field 1 t in
    let three : List Record = int_field 3 request.view in
    let rs : List Record = one ++ three in
    let numbered : AllByRecursion Numbered rs =
    numbered_both one three (text_numbered 1 t (omega arith) (omega arith)) (varint_numbered 3 v (Fits-of_z (wider request.view holds.view)).fits (omega arith) (omega arith)) in
    get_from (message_of rs) rs t request.view (records_back rs numbered short)
    (text_back 1 rs t (in_front (bytes_for 1) one three (text_own 1 t refl) (varint_payloads 1 3 v)) holds.name)
    (int32_back 3 rs request.view (behind (varint_for 3) one three (text_varints 3 1 t) (varint_own 3 v refl)) holds.view)

finalize_from : (bytes : List ℕ) (records : List Record) (name : List ℕ) → records_of bytes ≡ Ok records → text_in 1 records ≡ Ok name
    → finalize_write_stream_request_of bytes ≡ Ok (record { name = name })
unfolding finalize_write_stream_request_of
finalize_from bytes records name read p = rw (read, p) refl

pub finalize_requests_read_back : FinalizeRequestsReadBack
unfolding finalize_write_stream_request_bytes
finalize_requests_read_back request holds short =
    let t : List ℕ = request.name in
    let rs : List Record = text_field 1 t in
    finalize_from (message_of rs) rs t (records_back rs (text_numbered 1 t (omega arith) (omega arith)) short) (text_back 1 rs t (text_own 1 t refl) holds.name)

finalized_from : (bytes : List ℕ) (records : List Record) (row_count : ℤ) → records_of bytes ≡ Ok records → int64_in 1 records ≡ row_count
    → finalize_write_stream_response_of bytes ≡ Ok (record { row_count = row_count })
unfolding finalize_write_stream_response_of
finalized_from bytes records row_count read p = rw (read, p) refl

pub finalize_responses_read_back : FinalizeResponsesReadBack
unfolding finalize_write_stream_response_bytes
finalize_responses_read_back response holds short =
    let v : ℕ = cast_unsigned w64 response.row_count in
    let rs : List Record = int_field 1 response.row_count in
    finalized_from (message_of rs) rs response.row_count (records_back rs (varint_numbered 1 v (Fits-of_z holds.row_count).fits (omega arith) (omega arith)) short)
    (int64_back 1 rs response.row_count (varint_own 1 v refl) holds.row_count)

flush_from : (bytes : List ℕ) (records : List Record) (name : List ℕ) (offset : Option ℤ) → records_of bytes ≡ Ok records → text_in 1 records ≡ Ok name
    → nested int64_value_of 2 bytes records ≡ Ok offset → flush_rows_request_of bytes ≡ Ok (record { write_stream = name; offset = offset })
unfolding flush_rows_request_of
flush_from bytes records name offset read p q = rw (read, p, q) refl

pub flush_requests_read_back : FlushRequestsReadBack
unfolding flush_rows_request_bytes
flush_requests_read_back request holds short =
    let t : List ℕ = request.write_stream in
    let o : Option (List ℕ) = option_map int64_value_bytes request.offset in
    let one : List Record = text_field 1 t in
    let two : List Record = message_field 2 o in
    let rs : List Record = one ++ two in
    let read : records_of (message_of rs) ≡ Ok rs =
    records_back rs (numbered_both one two (text_numbered 1 t (omega arith) (omega arith)) (message_numbered 2 o (omega arith) (omega arith))) short in
    let sizes = sizes_of_two one two in
    let offset : nested int64_value_of 2 (message_of rs) rs ≡ Ok request.offset =
    nested_back int64_value_of int64_value_bytes (FitsSigned w64) 2 (message_of rs) rs request.offset int64_value_back
    (behind (bytes_for 2) one two (text_other 2 1 t refl) (message_own 2 o refl)) (omega (arith, sizes, short)) holds.offset in
    flush_from (message_of rs) rs t request.offset read
    (text_back 1 rs t (in_front (bytes_for 1) one two (text_own 1 t refl) (message_other 1 2 o refl)) holds.name) offset

flushed_from : (bytes : List ℕ) (records : List Record) (offset : ℤ) → records_of bytes ≡ Ok records → int64_in 1 records ≡ offset
    → flush_rows_response_of bytes ≡ Ok (record { offset = offset })
unfolding flush_rows_response_of
flushed_from bytes records offset read p = rw (read, p) refl

pub flush_responses_read_back : FlushResponsesReadBack
unfolding flush_rows_response_bytes
flush_responses_read_back response holds short =
    let v : ℕ = cast_unsigned w64 response.offset in
    let rs : List Record = int_field 1 response.offset in
    flushed_from (message_of rs) rs response.offset (records_back rs (varint_numbered 1 v (Fits-of_z holds.offset).fits (omega arith) (omega arith)) short)
    (int64_back 1 rs response.offset (varint_own 1 v refl) holds.offset)
