-- An AppendRowsResponse that was written reads back.
use Rattle.std.proofs.Common.{◌≡◌, ℕ, ℤ, ◌^◌, ◌<◌, List, ◌++◌, length, map, Option, Ok, refl, arith}
use Rattle.std.proofs.Math.Facts.{Fits-of_z}
use Rattle.std.specs.Prelude.{FitsSigned}
use Rattle.std.specs.Int.{w64, cast_unsigned}
use Rattle.std.specs.List.{AllByRecursion}
use Rattle.std.specs.Option.{option_map}
use Rattle.proto_fields.specs.Record.{Record}
use Rattle.proto_fields.specs.Message.{message_of}
use Rattle.proto_fields.specs.Selection.{bytes_for, varint_for}
use Rattle.write_msgs.specs.declared.response_parts.AppendResult.{AppendResult}
use Rattle.write_msgs.specs.declared.response_parts.Status.{Status}
use Rattle.write_msgs.specs.declared.response_parts.RowError.{RowError}
use Rattle.write_msgs.specs.Reading.{records_of, text_in, int64_in, int32_in, nested}
use Rattle.write_msgs.specs.Repeated.{repeated}
use Rattle.write_msgs.specs.Writing.{text_field, int_field, message_field, repeated_field}
use Rattle.write_msgs.specs.Request.{int64_value_of}
use Rattle.write_msgs.specs.RequestBytes.{int64_value_bytes}
use Rattle.write_msgs.specs.Response.{append_result_of, status_of, row_error_of, append_rows_response_of}
use Rattle.write_msgs.specs.ResponseBytes.{append_result_bytes, status_bytes, row_error_bytes, append_rows_response_bytes}
use Rattle.write_msgs.specs.RoundTrip.{IsResult, IsStatus, IsRowError, ResponsesReadBack}
use Rattle.write_msgs.proofs.ReadBack.{Numbered, records_back, numbered_both, text_numbered, message_numbered, repeated_numbered, varint_numbered, text_own, text_other, message_own, message_other, repeated_own, repeated_other, varint_own, varint_other, varint_payloads, text_varints, in_front, behind, sizes_of_two, text_back, int64_back, int32_back, wider, nested_back, repeated_back}
use Rattle.write_msgs.proofs.RequestBack.{int64_value_back}

result_from : (bytes : List ℕ) (records : List Record) (offset : Option ℤ) → records_of bytes ≡ Ok records → nested int64_value_of 1 bytes records ≡ Ok offset
    → append_result_of bytes ≡ Ok (record { offset = offset })
unfolding append_result_of
result_from bytes records offset read p = rw (read, p) refl

result_back : (appended : AppendResult) → IsResult appended → length (append_result_bytes appended) < 2 ^ 32 → append_result_of (append_result_bytes appended) ≡ Ok appended
unfolding append_result_bytes
result_back appended holds short =
    let o : Option (List ℕ) = option_map int64_value_bytes appended.offset in
    let rs : List Record = message_field 1 o in
    let read : records_of (message_of rs) ≡ Ok rs = records_back rs (message_numbered 1 o (omega arith) (omega arith)) short in
    result_from (message_of rs) rs appended.offset read
    (nested_back int64_value_of int64_value_bytes (FitsSigned w64) 1 (message_of rs) rs appended.offset int64_value_back (message_own 1 o refl) short holds.offset)

status_from : (bytes : List ℕ) (records : List Record) (code : ℤ) (message : List ℕ) → records_of bytes ≡ Ok records → int32_in 1 records ≡ code → text_in 2 records ≡ Ok message
    → status_of bytes ≡ Ok (record { code = code; message = message })
unfolding status_of
status_from bytes records code message read p q = rw (read, q, p) refl

status_back : (status : Status) → IsStatus status → length (status_bytes status) < 2 ^ 32 → status_of (status_bytes status) ≡ Ok status
unfolding status_bytes
status_back status holds short =
    let one : List Record = int_field 1 status.code in
    let two : List Record = text_field 2 status.message in
    let rs : List Record = one ++ two in
    let v : ℕ = cast_unsigned w64 status.code in
    let numbered : AllByRecursion Numbered rs =
    numbered_both one two (varint_numbered 1 v (Fits-of_z (wider status.code holds.code)).fits (omega arith) (omega arith)) (text_numbered 2 status.message (omega arith) (omega arith)) in
    let read : records_of (message_of rs) ≡ Ok rs = records_back rs numbered short in
    status_from (message_of rs) rs status.code status.message read
    (int32_back 1 rs status.code (in_front (varint_for 1) one two (varint_own 1 v refl) (text_varints 1 2 status.message)) holds.code)
    (text_back 2 rs status.message (behind (bytes_for 2) one two (varint_payloads 2 1 v) (text_own 2 status.message refl)) holds.message)

row_error_from : (bytes : List ℕ) (records : List Record) (index code : ℤ) (message : List ℕ) → records_of bytes ≡ Ok records → int64_in 1 records ≡ index → int32_in 2 records ≡ code
    → text_in 3 records ≡ Ok message → row_error_of bytes ≡ Ok (record { index = index; code = code; message = message })
unfolding row_error_of
row_error_from bytes records index code message read p q r = rw (read, r, p, q) refl

row_error_back : (error : RowError) → IsRowError error → length (row_error_bytes error) < 2 ^ 32 → row_error_of (row_error_bytes error) ≡ Ok error
unfolding row_error_bytes
row_error_back error holds short =
    let one : List Record = int_field 1 error.index in
    let two : List Record = int_field 2 error.code in
    let three : List Record = text_field 3 error.message in
    let rs : List Record = one ++ two ++ three in
    let v : ℕ = cast_unsigned w64 error.index in
    let w : ℕ = cast_unsigned w64 error.code in
    let numbered : AllByRecursion Numbered rs =
    numbered_both (one ++ two) three
    (
    numbered_both one two (varint_numbered 1 v (Fits-of_z holds.index).fits (omega arith) (omega arith))
    (varint_numbered 2 w (Fits-of_z (wider error.code holds.code)).fits (omega arith) (omega arith))
    )
    (text_numbered 3 error.message (omega arith) (omega arith)) in
    let read : records_of (message_of rs) ≡ Ok rs = records_back rs numbered short in
    row_error_from (message_of rs) rs error.index error.code error.message read
    (int64_back 1 rs error.index (in_front (varint_for 1) (one ++ two) three (in_front (varint_for 1) one two (varint_own 1 v refl) (varint_other 1 2 w refl)) (text_varints 1 3 error.message)) holds.index)
    (int32_back 2 rs error.code (in_front (varint_for 2) (one ++ two) three (behind (varint_for 2) one two (varint_other 2 1 v refl) (varint_own 2 w refl)) (text_varints 2 3 error.message)) holds.code)
    (text_back 3 rs error.message (behind (bytes_for 3) (one ++ two) three (behind (bytes_for 3) one two (varint_payloads 3 1 v) (varint_payloads 3 2 w)) (text_own 3 error.message refl)) holds.message)

response_from : (bytes : List ℕ) (records : List Record) (appended : Option AppendResult) (error : Option Status) (errors : List RowError) (name : List ℕ) → records_of bytes ≡ Ok records
    → nested append_result_of 1 bytes records ≡ Ok appended → nested status_of 2 bytes records ≡ Ok error → repeated row_error_of 4 bytes records ≡ Ok errors → text_in 5 records ≡ Ok name
    → append_rows_response_of bytes ≡ Ok (record { append_result = appended; error = error; row_errors = errors; write_stream = name })
unfolding append_rows_response_of
response_from bytes records appended error errors name read p q r s = rw (read, p, q, r, s) refl

pub responses_read_back : ResponsesReadBack
unfolding append_rows_response_bytes
responses_read_back response holds short =
    let a : Option (List ℕ) = option_map append_result_bytes response.append_result in
    let e : Option (List ℕ) = option_map status_bytes response.error in
    let r : List (List ℕ) = map row_error_bytes response.row_errors in
    let t : List ℕ = response.write_stream in
    let one : List Record = message_field 1 a in
    let two : List Record = message_field 2 e in
    let four : List Record = repeated_field 4 r in
    let five : List Record = text_field 5 t in
    let rs : List Record = one ++ two ++ four ++ five in
    let numbered : AllByRecursion Numbered rs =
    numbered_both (one ++ two ++ four) five
    (
    numbered_both (one ++ two) four (numbered_both one two (message_numbered 1 a (omega arith) (omega arith)) (message_numbered 2 e (omega arith) (omega arith)))
    (repeated_numbered 4 r (omega arith) (omega arith))
    )
    (text_numbered 5 t (omega arith) (omega arith)) in
    let read : records_of (message_of rs) ≡ Ok rs = records_back rs numbered short in
    let whole = sizes_of_two (one ++ two ++ four) five in
    let front = sizes_of_two (one ++ two) four in
    let first = sizes_of_two one two in
    let appended : nested append_result_of 1 (message_of rs) rs ≡ Ok response.append_result =
    nested_back append_result_of append_result_bytes IsResult 1 (message_of rs) rs response.append_result result_back
    (in_front (bytes_for 1) (one ++ two ++ four) five (in_front (bytes_for 1) (one ++ two) four (in_front (bytes_for 1) one two (message_own 1 a refl) (message_other 1 2 e refl)) (repeated_other 1 4 r refl)) (text_other 1 5 t refl)) (omega (arith, short, whole, front, first)) holds.appended in
    let error : nested status_of 2 (message_of rs) rs ≡ Ok response.error =
    nested_back status_of status_bytes IsStatus 2 (message_of rs) rs response.error status_back
    (in_front (bytes_for 2) (one ++ two ++ four) five (in_front (bytes_for 2) (one ++ two) four (behind (bytes_for 2) one two (message_other 2 1 a refl) (message_own 2 e refl)) (repeated_other 2 4 r refl)) (text_other 2 5 t refl)) (omega (arith, short, whole, front, first)) holds.error in
    let errors : repeated row_error_of 4 (message_of rs) rs ≡ Ok response.row_errors =
    repeated_back row_error_of row_error_bytes IsRowError 4 (message_of rs) rs response.row_errors row_error_back
    (in_front (bytes_for 4) (one ++ two ++ four) five (behind (bytes_for 4) (one ++ two) four (behind (bytes_for 4) one two (message_other 4 1 a refl) (message_other 4 2 e refl)) (repeated_own 4 r refl)) (text_other 4 5 t refl)) (omega (arith, short, whole, front, first)) holds.row_errors in
    let name : text_in 5 rs ≡ Ok t =
    text_back 5 rs t (behind (bytes_for 5) (one ++ two ++ four) five (behind (bytes_for 5) (one ++ two) four (behind (bytes_for 5) one two (message_other 5 1 a refl) (message_other 5 2 e refl)) (repeated_other 5 4 r refl)) (text_own 5 t refl)) holds.name in
    response_from (message_of rs) rs response.append_result response.error response.row_errors t read appended error errors name
