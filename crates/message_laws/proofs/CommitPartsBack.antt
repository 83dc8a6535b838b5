-- A Timestamp and a StorageError that were written read back.
use Rattle.std.proofs.Common.{◌≡◌, ℕ, ℤ, List, ◌++◌, Ok, refl, arith}
use Rattle.std.proofs.Math.Facts.{Fits-of_z}
use Rattle.std.specs.Int.{w64, cast_unsigned}
use Rattle.std.specs.List.{AllByRecursion}
use Rattle.proto_fields.specs.Record.{Record}
use Rattle.proto_fields.specs.Message.{message_of}
use Rattle.proto_fields.specs.Selection.{bytes_for, varint_for}
use Rattle.write_msgs.specs.Reading.{records_of, text_in, int64_in, int32_in}
use Rattle.write_msgs.specs.Writing.{text_field, int_field}
use Rattle.write_msgs.specs.CommitParts.{timestamp_of, storage_error_of}
use Rattle.write_msgs.specs.CommitPartsBytes.{timestamp_bytes, storage_error_bytes}
use Rattle.write_msgs.proofs.ReadBack.{Numbered, records_back, numbered_both, text_numbered, varint_numbered, text_own, text_other, varint_own, varint_other, varint_payloads, text_varints, in_front, behind, text_back, int64_back, int32_back, wider}
use Rattle.message_laws.specs.RoundTrip.{TimestampsReadBack, StorageErrorsReadBack}

time_from : (bytes : List ℕ) (records : List Record) (seconds nanos : ℤ) → records_of bytes ≡ Ok records → int64_in 1 records ≡ seconds → int32_in 2 records ≡ nanos
    → timestamp_of bytes ≡ Ok (record { seconds = seconds; nanos = nanos })
unfolding timestamp_of
time_from bytes records seconds nanos read p q = rw (read, p, q) refl

pub timestamps_read_back : TimestampsReadBack
unfolding timestamp_bytes
timestamps_read_back moment holds short =
    let v : ℕ = cast_unsigned w64 moment.seconds in
    let w : ℕ = cast_unsigned w64 moment.nanos in
    let one : List Record = int_field 1 moment.seconds in
    let two : List Record = int_field 2 moment.nanos in
    let rs : List Record = one ++ two in
    let numbered : AllByRecursion Numbered rs =
    numbered_both one two (varint_numbered 1 v (Fits-of_z holds.seconds).fits (omega arith) (omega arith)) (varint_numbered 2 w (Fits-of_z (wider moment.nanos holds.nanos)).fits (omega arith) (omega arith)) in
    time_from (message_of rs) rs moment.seconds moment.nanos (records_back rs numbered short)
    (int64_back 1 rs moment.seconds (in_front (varint_for 1) one two (varint_own 1 v refl) (varint_other 1 2 w refl)) holds.seconds)
    (int32_back 2 rs moment.nanos (behind (varint_for 2) one two (varint_other 2 1 v refl) (varint_own 2 w refl)) holds.nanos)

error_from : (bytes : List ℕ) (records : List Record) (code : ℤ) (entity message : List ℕ) → records_of bytes ≡ Ok records → int32_in 1 records ≡ code → text_in 2 records ≡ Ok entity
    → text_in 3 records ≡ Ok message → storage_error_of bytes ≡ Ok (record { code = code; entity = entity; error_message = message })
unfolding storage_error_of
error_from bytes records code entity message read p q r = rw (read, q, r, p) refl

pub storage_errors_read_back : StorageErrorsReadBack
unfolding storage_error_bytes
storage_errors_read_back error holds short =
    let v : ℕ = cast_unsigned w64 error.code in
    let s : List ℕ = error.entity in
    let t : List ℕ = error.error_message in
    let one : List Record = int_field 1 error.code in
    let two : List Record = text_field 2 s in
    let three : List Record = text_field 3 t in
    let rs : List Record = one ++ two ++ three in
    let numbered : AllByRecursion Numbered rs =
    numbered_both (one ++ two) three
    (numbered_both one two (varint_numbered 1 v (Fits-of_z (wider error.code holds.code)).fits (omega arith) (omega arith)) (text_numbered 2 s (omega arith) (omega arith)))
    (text_numbered 3 t (omega arith) (omega arith)) in
    error_from (message_of rs) rs error.code s t (records_back rs numbered short)
    (int32_back 1 rs error.code (in_front (varint_for 1) (one ++ two) three (in_front (varint_for 1) one two (varint_own 1 v refl) (text_varints 1 2 s)) (text_varints 1 3 t)) holds.code)
    (text_back 2 rs s (in_front (bytes_for 2) (one ++ two) three (behind (bytes_for 2) one two (varint_payloads 2 1 v) (text_own 2 s refl)) (text_other 2 3 t refl)) holds.entity)
    (text_back 3 rs t (behind (bytes_for 3) (one ++ two) three (behind (bytes_for 3) one two (varint_payloads 3 1 v) (text_other 3 2 s refl)) (text_own 3 t refl)) holds.error_message)
