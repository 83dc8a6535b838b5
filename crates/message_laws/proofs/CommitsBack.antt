-- A BatchCommitWriteStreamsRequest and a BatchCommitWriteStreamsResponse that were written read back.
use Rattle.std.proofs.Common.{◌≡◌, ℕ, ◌<◌, ◌^◌, List, [], ◌∷◌, ◌++◌, length, map, Option, Ok, refl, sym, ap, subst, ◌∙◌, arith}
use Rattle.std.specs.List.{AllByRecursion}
use Rattle.std.specs.Option.{option_map}
use Rattle.std.specs.Str.{IsUtf8}
use Rattle.proto_fields.specs.Record.{Record}
use Rattle.proto_fields.specs.Message.{message_of}
use Rattle.proto_fields.specs.Selection.{bytes_for, payloads_of}
use Rattle.write_msgs.specs.declared.commit_parts.Timestamp.{Timestamp}
use Rattle.write_msgs.specs.declared.commit_parts.StorageError.{StorageError}
use Rattle.write_msgs.specs.Reading.{records_of, text_in, nested}
use Rattle.write_msgs.specs.Repeated.{repeated}
use Rattle.write_msgs.specs.Writing.{text_field, message_field, repeated_field}
use Rattle.write_msgs.specs.CommitParts.{timestamp_of, storage_error_of}
use Rattle.write_msgs.specs.CommitPartsBytes.{timestamp_bytes, storage_error_bytes}
use Rattle.write_msgs.specs.Commits.{text_item, batch_commit_write_streams_request_of, batch_commit_write_streams_response_of}
use Rattle.write_msgs.specs.CommitsBytes.{batch_commit_write_streams_request_bytes, batch_commit_write_streams_response_bytes}
use Rattle.write_msgs.proofs.TextLemmas.{text_from-utf8}
use Rattle.write_msgs.proofs.ReadBack.{records_back, numbered_both, text_numbered, message_numbered, repeated_numbered, text_own, text_other, message_own, message_other, repeated_own, repeated_other, in_front, behind, sizes_of_two, text_back, nested_back, repeated_back}
use Rattle.message_laws.specs.RoundTrip.{IsTimestamp, IsStorageError, CommitRequestsReadBack, CommitResponsesReadBack}
use Rattle.message_laws.proofs.CommitPartsBack.{timestamps_read_back, storage_errors_read_back}

-- texts are written as they are
as_they_are : (texts : List (List ℕ)) → map (λ text. text) texts ≡ texts
as_they_are [] = refl
as_they_are (text ∷ texts) = ap (λ others. text ∷ others) (as_they_are texts)

texts_back : (n : ℕ) (bytes : List ℕ) (records : List Record) (texts : List (List ℕ)) → payloads_of n records ≡ texts → length (message_of (repeated_field n texts)) < 2 ^ 32 → AllByRecursion IsUtf8 texts
    → repeated (text_item n) n bytes records ≡ Ok texts
texts_back n bytes records texts is short good =
    repeated_back (text_item n) (λ text. text) IsUtf8 n bytes records texts (λ text utf8 few. text_from-utf8 n text utf8) (is ∙ sym (as_they_are texts))
    (subst (λ items. length (message_of (repeated_field n items)) < 2 ^ 32) (sym (as_they_are texts)) short) good

request_from : (bytes : List ℕ) (records : List Record) (parent : List ℕ) (names : List (List ℕ)) → records_of bytes ≡ Ok records → text_in 1 records ≡ Ok parent
    → repeated (text_item 2) 2 bytes records ≡ Ok names → batch_commit_write_streams_request_of bytes ≡ Ok (record { parent = parent; write_streams = names })
unfolding batch_commit_write_streams_request_of
request_from bytes records parent names read p q = rw (read, p, q) refl

pub commit_requests_read_back : CommitRequestsReadBack
unfolding batch_commit_write_streams_request_bytes
commit_requests_read_back request holds short =
    let t : List ℕ = request.parent in
    let names : List (List ℕ) = request.write_streams in
    let one : List Record = text_field 1 t in
    let two : List Record = repeated_field 2 names in
    let rs : List Record = one ++ two in
    let read : records_of (message_of rs) ≡ Ok rs =
    records_back rs (numbered_both one two (text_numbered 1 t (omega arith) (omega arith)) (repeated_numbered 2 names (omega arith) (omega arith))) short in
    let sizes = sizes_of_two one two in
    request_from (message_of rs) rs t names read
    (text_back 1 rs t (in_front (bytes_for 1) one two (text_own 1 t refl) (repeated_other 1 2 names refl)) holds.parent)
    (texts_back 2 (message_of rs) rs names (behind (bytes_for 2) one two (text_other 2 1 t refl) (repeated_own 2 names refl)) (omega (arith, sizes, short)) holds.write_streams)

response_from : (bytes : List ℕ) (records : List Record) (moment : Option Timestamp) (errors : List StorageError) → records_of bytes ≡ Ok records → nested timestamp_of 1 bytes records ≡ Ok moment
    → repeated storage_error_of 2 bytes records ≡ Ok errors → batch_commit_write_streams_response_of bytes ≡ Ok (record { commit_time = moment; stream_errors = errors })
unfolding batch_commit_write_streams_response_of
response_from bytes records moment errors read p q = rw (read, p, q) refl

pub commit_responses_read_back : CommitResponsesReadBack
unfolding batch_commit_write_streams_response_bytes
commit_responses_read_back response holds short =
    let m : Option (List ℕ) = option_map timestamp_bytes response.commit_time in
    let e : List (List ℕ) = map storage_error_bytes response.stream_errors in
    let one : List Record = message_field 1 m in
    let two : List Record = repeated_field 2 e in
    let rs : List Record = one ++ two in
    let read : records_of (message_of rs) ≡ Ok rs =
    records_back rs (numbered_both one two (message_numbered 1 m (omega arith) (omega arith)) (repeated_numbered 2 e (omega arith) (omega arith))) short in
    let sizes = sizes_of_two one two in
    let moment : nested timestamp_of 1 (message_of rs) rs ≡ Ok response.commit_time =
    nested_back timestamp_of timestamp_bytes IsTimestamp 1 (message_of rs) rs response.commit_time timestamps_read_back
    (in_front (bytes_for 1) one two (message_own 1 m refl) (repeated_other 1 2 e refl)) (omega (arith, sizes, short)) holds.commit_time in
    let errors : repeated storage_error_of 2 (message_of rs) rs ≡ Ok response.stream_errors =
    repeated_back storage_error_of storage_error_bytes IsStorageError 2 (message_of rs) rs response.stream_errors storage_errors_read_back
    (behind (bytes_for 2) one two (message_other 2 1 m refl) (repeated_own 2 e refl)) (omega (arith, sizes, short)) holds.stream_errors in
    response_from (message_of rs) rs response.commit_time response.stream_errors read moment errors
