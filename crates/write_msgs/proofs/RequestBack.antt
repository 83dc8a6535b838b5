-- An AppendRowsRequest that was written reads back.
use Rattle.std.proofs.Common.{◌≡◌, ℕ, ℤ, ◌^◌, ◌<◌, List, [], ◌++◌, length, Option, Some, None, Ok, refl, ap, ◌∙◌, arith}
use Rattle.std.proofs.lemmas.List.{append-nil}
use Rattle.std.proofs.Math.Facts.{Fits-of_z}
use Rattle.std.specs.Prelude.{IfSome, FitsSigned}
use Rattle.std.specs.Int.{w64, cast_unsigned}
use Rattle.std.specs.List.{AllByRecursion}
use Rattle.std.specs.Option.{option_map}
use Rattle.proto_fields.specs.Record.{Record}
use Rattle.proto_fields.specs.Message.{message_of}
use Rattle.proto_fields.specs.Selection.{merged_of, payloads_of}
use Rattle.write_msgs.specs.declared.request_parts.ProtoData.{ProtoData}
use Rattle.write_msgs.specs.declared.request_parts.ProtoRows.{ProtoRows}
use Rattle.write_msgs.specs.declared.request_parts.ProtoSchema.{ProtoSchema}
use Rattle.write_msgs.specs.Reading.{◌>>=◌, records_of, text_in, int64_in, nested}
use Rattle.write_msgs.specs.Writing.{text_field, int_field, message_field, repeated_field}
use Rattle.write_msgs.specs.Request.{int64_value_of, proto_schema_of, proto_rows_of, proto_data_of, append_rows_request_of}
use Rattle.write_msgs.specs.RequestBytes.{int64_value_bytes, proto_schema_bytes, proto_rows_bytes, proto_data_bytes, append_rows_request_bytes}
use Rattle.write_msgs.specs.RoundTrip.{RequestsReadBack}
use Rattle.write_msgs.proofs.ReadBack.{Numbered, records_back, numbered_both, text_numbered, message_numbered, repeated_numbered, varint_numbered, text_list, message_list, text_own, text_other, message_own, message_other, repeated_own, varint_own, first_of_three, second_of_three, third_of_three, first_of_two, second_of_two, sizes_of_two, sizes_of_three, text_back, int64_back, nested_back}

pub int64_value_back : (z : ℤ) → FitsSigned w64 z → length (int64_value_bytes z) < 2 ^ 32 → int64_value_of (int64_value_bytes z) ≡ Ok z
unfolding int64_value_of int64_value_bytes
int64_value_back z fits short =
    let rs : List Record = int_field 1 z in
    let read : records_of (message_of rs) ≡ Ok rs = records_back rs (varint_numbered 1 (cast_unsigned w64 z) (Fits-of_z fits).fits (omega arith) (omega arith)) short in
    ap (λ r. r >>= λ records. Ok (int64_in 1 records)) read ∙ ap Ok (int64_back 1 rs z (varint_own 1 (cast_unsigned w64 z) refl) fits)

one_or_none : (o : Option (List ℕ)) → merged_of (message_list o) ≡ o
one_or_none None = refl
one_or_none (Some bytes) = ap Some (append-nil bytes)

pub proto_schema_back : (schema : ProtoSchema) → length (proto_schema_bytes schema) < 2 ^ 32 → proto_schema_of (proto_schema_bytes schema) ≡ Ok schema
unfolding proto_schema_of proto_schema_bytes
proto_schema_back schema short =
    let rs : List Record = message_field 1 schema.proto_descriptor in
    let read : records_of (message_of rs) ≡ Ok rs = records_back rs (message_numbered 1 schema.proto_descriptor (omega arith) (omega arith)) short in
    ap (λ r. r >>= λ records. Ok (record { proto_descriptor = merged_of (payloads_of 1 records) })) read
    ∙ ap (λ o. Ok (record { proto_descriptor = o })) (ap merged_of (message_own 1 schema.proto_descriptor refl) ∙ one_or_none schema.proto_descriptor)

pub proto_rows_back : (rows : ProtoRows) → length (proto_rows_bytes rows) < 2 ^ 32 → proto_rows_of (proto_rows_bytes rows) ≡ Ok rows
unfolding proto_rows_of proto_rows_bytes
proto_rows_back rows short =
    let rs : List Record = repeated_field 1 rows.serialized_rows in
    let read : records_of (message_of rs) ≡ Ok rs = records_back rs (repeated_numbered 1 rows.serialized_rows (omega arith) (omega arith)) short in
    ap (λ r. r >>= λ records. Ok (record { serialized_rows = payloads_of 1 records })) read ∙ ap (λ items. Ok (record { serialized_rows = items })) (repeated_own 1 rows.serialized_rows refl)

-- what holds of each value
any : {X : Type 0} (o : Option X) → IfSome o (λ x. Unit {0})
any None = tt
any (Some x) = tt

data_from : (bytes : List ℕ) (records : List Record) (schema : Option ProtoSchema) (rows : Option ProtoRows) → records_of bytes ≡ Ok records → nested proto_schema_of 1 bytes records ≡ Ok schema
    → nested proto_rows_of 2 bytes records ≡ Ok rows → proto_data_of bytes ≡ Ok (record { writer_schema = schema; rows = rows })
unfolding proto_data_of
data_from bytes records schema rows read p q = rw (read, p, q) refl

pub proto_data_back : (content : ProtoData) → length (proto_data_bytes content) < 2 ^ 32 → proto_data_of (proto_data_bytes content) ≡ Ok content
unfolding proto_data_bytes
proto_data_back content short =
    let s : Option (List ℕ) = option_map proto_schema_bytes content.writer_schema in
    let r : Option (List ℕ) = option_map proto_rows_bytes content.rows in
    let rs : List Record = message_field 1 s ++ message_field 2 r in
    let read : records_of (message_of rs) ≡ Ok rs =
    records_back rs (numbered_both (message_field 1 s) (message_field 2 r) (message_numbered 1 s (omega arith) (omega arith)) (message_numbered 2 r (omega arith) (omega arith))) short in
    let sizes = sizes_of_two (message_field 1 s) (message_field 2 r) in
    let schema : nested proto_schema_of 1 (message_of rs) rs ≡ Ok content.writer_schema =
    nested_back proto_schema_of proto_schema_bytes (λ x. Unit {0}) 1 (message_of rs) rs content.writer_schema (λ x u h. proto_schema_back x h)
    (first_of_two 1 (message_field 1 s) (message_field 2 r) (message_list s) (message_own 1 s refl) (message_other 1 2 r refl)) (omega (arith, sizes, short)) (any content.writer_schema) in
    let rows : nested proto_rows_of 2 (message_of rs) rs ≡ Ok content.rows =
    nested_back proto_rows_of proto_rows_bytes (λ x. Unit {0}) 2 (message_of rs) rs content.rows (λ x u h. proto_rows_back x h)
    (second_of_two 2 (message_field 1 s) (message_field 2 r) (message_list r) (message_other 2 1 s refl) (message_own 2 r refl)) (omega (arith, sizes, short)) (any content.rows) in
    data_from (message_of rs) rs content.writer_schema content.rows read schema rows

request_from : (bytes : List ℕ) (records : List Record) (name : List ℕ) (offset : Option ℤ) (content : Option ProtoData) → records_of bytes ≡ Ok records → text_in 1 records ≡ Ok name
    → nested int64_value_of 2 bytes records ≡ Ok offset → nested proto_data_of 4 bytes records ≡ Ok content → payloads_of 5 records ≡ []
    → append_rows_request_of bytes ≡ Ok (record { write_stream = name; offset = offset; proto_rows = content })
unfolding append_rows_request_of
request_from bytes records name offset content read p q r s = rw (read, p, q, r, s) refl

pub requests_read_back : RequestsReadBack
unfolding append_rows_request_bytes
requests_read_back request holds short =
    let o : Option (List ℕ) = option_map int64_value_bytes request.offset in
    let d : Option (List ℕ) = option_map proto_data_bytes request.proto_rows in
    let one : List Record = text_field 1 request.write_stream in
    let two : List Record = message_field 2 o in
    let four : List Record = message_field 4 d in
    let rs : List Record = one ++ two ++ four in
    let numbered : AllByRecursion Numbered rs =
    numbered_both (one ++ two) four (numbered_both one two (text_numbered 1 request.write_stream (omega arith) (omega arith)) (message_numbered 2 o (omega arith) (omega arith)))
    (message_numbered 4 d (omega arith) (omega arith)) in
    let read : records_of (message_of rs) ≡ Ok rs = records_back rs numbered short in
    let sizes = sizes_of_three one two four in
    let name : text_in 1 rs ≡ Ok request.write_stream =
    text_back 1 rs request.write_stream
    (first_of_three 1 one two four (text_list request.write_stream) (text_own 1 request.write_stream refl) (message_other 1 2 o refl) (message_other 1 4 d refl)) holds.name in
    let offset : nested int64_value_of 2 (message_of rs) rs ≡ Ok request.offset =
    nested_back int64_value_of int64_value_bytes (FitsSigned w64) 2 (message_of rs) rs request.offset int64_value_back
    (second_of_three 2 one two four (message_list o) (text_other 2 1 request.write_stream refl) (message_own 2 o refl) (message_other 2 4 d refl)) (omega (arith, sizes, short)) holds.offset in
    let content : nested proto_data_of 4 (message_of rs) rs ≡ Ok request.proto_rows =
    nested_back proto_data_of proto_data_bytes (λ x. Unit {0}) 4 (message_of rs) rs request.proto_rows (λ x u h. proto_data_back x h)
    (third_of_three 4 one two four (message_list d) (text_other 4 1 request.write_stream refl) (message_other 4 2 o refl) (message_own 4 d refl)) (omega (arith, sizes, short)) (any request.proto_rows) in
    let others : payloads_of 5 rs ≡ [] =
    third_of_three 5 one two four [] (text_other 5 1 request.write_stream refl) (message_other 5 2 o refl) (message_other 5 4 d refl) in
    request_from (message_of rs) rs request.write_stream request.offset request.proto_rows read name offset content others
