-- The messages within a session, a response or a split's reply read back.
use Rattle.std.proofs.Common.{◌≡◌, ℕ, ℤ, ◌<◌, ◌^◌, List, [], ◌∷◌, ◌++◌, length, map, false, Option, Ok, refl, sym, ap, subst, ◌∙◌, arith}
use Rattle.std.proofs.Math.Facts.{Fits-of_z}
use Rattle.std.specs.Prelude.{unwrap_or}
use Rattle.std.specs.Int.{w64, cast_unsigned}
use Rattle.std.specs.List.{AllByRecursion}
use Rattle.std.specs.Option.{option_map}
use Rattle.std.specs.Ordering.{int_eq}
use Rattle.std.specs.Str.{IsUtf8}
use Rattle.proto_fields.specs.Record.{Record}
use Rattle.proto_fields.specs.Message.{message_of}
use Rattle.proto_fields.specs.Selection.{last_of, bytes_for, varint_for, payloads_of}
use Rattle.write_msgs.specs.declared.commit_parts.Timestamp.{Timestamp}
use Rattle.write_msgs.specs.Reading.{records_of, text_in, int64_in, int32_in, nested}
use Rattle.write_msgs.specs.Repeated.{repeated}
use Rattle.write_msgs.specs.Writing.{text_field, int_field, message_field, repeated_field}
use Rattle.write_msgs.specs.Commits.{text_item}
use Rattle.write_msgs.specs.CommitParts.{timestamp_of}
use Rattle.write_msgs.specs.CommitPartsBytes.{timestamp_bytes}
use Rattle.write_msgs.proofs.TextLemmas.{text_from-utf8}
use Rattle.write_msgs.proofs.ReadBack.{Numbered, records_back, numbered_both, text_numbered, message_numbered, repeated_numbered, varint_numbered, text_list, text_own, text_other, message_own, repeated_own, repeated_other, varint_own, varint_other, in_front, behind, sizes_of_two, text_back, int64_back, int32_back, wider, nested_back, repeated_back}
use Rattle.read_msgs.specs.declared.options.TableModifiers.{TableModifiers}
use Rattle.read_msgs.specs.declared.options.TableReadOptions.{TableReadOptions}
use Rattle.read_msgs.specs.declared.rows.AvroRows.{AvroRows}
use Rattle.read_msgs.specs.declared.rows.AvroSchema.{AvroSchema}
use Rattle.read_msgs.specs.declared.streams.ReadStream.{ReadStream}
use Rattle.read_msgs.specs.declared.numbers.TheConstants.{ARROW}
use Rattle.read_msgs.specs.Parts.{blob_in, served_format, format_in, unsampled}
use Rattle.read_msgs.specs.Options.{table_modifiers_of, table_read_options_of}
use Rattle.read_msgs.specs.OptionsBytes.{table_modifiers_bytes, table_read_options_bytes}
use Rattle.read_msgs.specs.Rows.{avro_rows_of, avro_schema_of}
use Rattle.read_msgs.specs.RowsBytes.{avro_rows_bytes, avro_schema_bytes}
use Rattle.read_msgs.specs.Streams.{read_stream_of}
use Rattle.read_msgs.specs.StreamsBytes.{read_stream_bytes}
use Rattle.read_msgs.specs.RoundTrip.{IsTime, IsModifiers, IsOptions, IsAvroSchema, IsReadStream}
use Rattle.read_msgs.proofs.FieldLemmas.{text_unsampled, repeated_unsampled, both_unsampled}

time_from : (bytes : List ℕ) (records : List Record) (seconds nanos : ℤ) → records_of bytes ≡ Ok records → int64_in 1 records ≡ seconds → int32_in 2 records ≡ nanos
    → timestamp_of bytes ≡ Ok (record { seconds = seconds; nanos = nanos })
unfolding timestamp_of
time_from bytes records seconds nanos read p q = rw (read, p, q) refl

pub time_back : (moment : Timestamp) → IsTime moment → length (timestamp_bytes moment) < 2 ^ 32 → timestamp_of (timestamp_bytes moment) ≡ Ok moment
unfolding timestamp_bytes
time_back moment holds short =
    let v : ℕ = cast_unsigned w64 moment.seconds in
    let w : ℕ = cast_unsigned w64 moment.nanos in
    let one : List Record = int_field 1 moment.seconds in
    let two : List Record = int_field 2 moment.nanos in
    let rs : List Record = one ++ two in
    let numbered : AllByRecursion Numbered rs =
    numbered_both one two (varint_numbered 1 v (Fits-of_z holds.seconds).fits (omega arith) (omega arith)) (varint_numbered 2 w (Fits-of_z (wider moment.nanos holds.nanos)).fits (omega arith) (omega arith)) in
    time_from (message_of rs) rs moment.seconds moment.nanos (records_back rs numbered short)
    (int64_back 1 rs moment.seconds (in_front (varint_for 1) one two (varint_own 1 v refl) (varint_other 1 2 w refl)) holds.seconds)
    (int32_back 2 rs moment.nanos (behind (varint_for 2) one two (varint_other 2 1 v refl) (varint_own 2 w refl)) holds.nanos)

modifiers_from : (bytes : List ℕ) (records : List Record) (moment : Option Timestamp) → records_of bytes ≡ Ok records → nested timestamp_of 1 bytes records ≡ Ok moment
    → table_modifiers_of bytes ≡ Ok (record { snapshot_time = moment })
unfolding table_modifiers_of
modifiers_from bytes records moment read p = rw (read, p) refl

pub modifiers_back : (modifiers : TableModifiers) → IsModifiers modifiers → length (table_modifiers_bytes modifiers) < 2 ^ 32 → table_modifiers_of (table_modifiers_bytes modifiers) ≡ Ok modifiers
unfolding table_modifiers_bytes
modifiers_back modifiers holds short =
    let t : Option (List ℕ) = option_map timestamp_bytes modifiers.snapshot_time in
    let rs : List Record = message_field 1 t in
    modifiers_from (message_of rs) rs modifiers.snapshot_time (records_back rs (message_numbered 1 t (omega arith) (omega arith)) short)
    (nested_back timestamp_of timestamp_bytes IsTime 1 (message_of rs) rs modifiers.snapshot_time time_back (message_own 1 t refl) short holds.snapshot_time)

-- texts are written as they are
as_they_are : (texts : List (List ℕ)) → map (λ text. text) texts ≡ texts
as_they_are [] = refl
as_they_are (text ∷ texts) = ap (λ others. text ∷ others) (as_they_are texts)

texts_back : (n : ℕ) (bytes : List ℕ) (records : List Record) (texts : List (List ℕ)) → payloads_of n records ≡ texts → length (message_of (repeated_field n texts)) < 2 ^ 32 → AllByRecursion IsUtf8 texts
    → repeated (text_item n) n bytes records ≡ Ok texts
texts_back n bytes records texts is short good =
    repeated_back (text_item n) (λ text. text) IsUtf8 n bytes records texts (λ text utf8 few. text_from-utf8 n text utf8) (is ∙ sym (as_they_are texts))
    (subst (λ items. length (message_of (repeated_field n items)) < 2 ^ 32) (sym (as_they_are texts)) short) good

options_from : (bytes : List ℕ) (records : List Record) (names : List (List ℕ)) (restriction : List ℕ) → records_of bytes ≡ Ok records → repeated (text_item 1) 1 bytes records ≡ Ok names
    → text_in 2 records ≡ Ok restriction → unsampled records ≡ Ok tt → table_read_options_of bytes ≡ Ok (record { selected_fields = names; row_restriction = restriction })
unfolding table_read_options_of
options_from bytes records names restriction read p q r = rw (read, p, q, r) refl

pub options_back : (options : TableReadOptions) → IsOptions options → length (table_read_options_bytes options) < 2 ^ 32 → table_read_options_of (table_read_options_bytes options) ≡ Ok options
unfolding table_read_options_bytes
options_back options holds short =
    let names : List (List ℕ) = options.selected_fields in
    let t : List ℕ = options.row_restriction in
    let one : List Record = repeated_field 1 names in
    let two : List Record = text_field 2 t in
    let rs : List Record = one ++ two in
    let read : records_of (message_of rs) ≡ Ok rs =
    records_back rs (numbered_both one two (repeated_numbered 1 names (omega arith) (omega arith)) (text_numbered 2 t (omega arith) (omega arith))) short in
    let sizes = sizes_of_two one two in
    let served : unsampled rs ≡ Ok tt = rw (both_unsampled one two (repeated_unsampled 1 names) (text_unsampled 2 t)) refl in
    options_from (message_of rs) rs names t read
    (texts_back 1 (message_of rs) rs names (in_front (bytes_for 1) one two (repeated_own 1 names refl) (text_other 1 2 t refl)) (omega (arith, sizes, short)) holds.selected_fields)
    (text_back 2 rs t (behind (bytes_for 2) one two (repeated_other 2 1 names refl) (text_own 2 t refl)) holds.row_restriction) served

-- a data format that is served
pub format_back : (records : List Record) (format : ℤ) → int32_in 3 records ≡ format → int_eq format ARROW ≡ false → format_in records ≡ Ok format
format_back records format is served = ap served_format is ∙ rw served refl

-- bytes are written as a text is
blob_written : (bytes : List ℕ) → unwrap_or (last_of (text_list bytes)) [] ≡ bytes
blob_written [] = refl
blob_written (b ∷ bytes) = refl

rows_from : (bytes : List ℕ) (records : List Record) (rows : List ℕ) → records_of bytes ≡ Ok records → blob_in 1 records ≡ rows → avro_rows_of bytes ≡ Ok (record { serialized_binary_rows = rows })
unfolding avro_rows_of
rows_from bytes records rows read p = rw (read, p) refl

pub rows_back : (rows : AvroRows) → Unit {0} → length (avro_rows_bytes rows) < 2 ^ 32 → avro_rows_of (avro_rows_bytes rows) ≡ Ok rows
unfolding avro_rows_bytes
rows_back rows holds short =
    let t : List ℕ = rows.serialized_binary_rows in
    let rs : List Record = text_field 1 t in
    rows_from (message_of rs) rs t (records_back rs (text_numbered 1 t (omega arith) (omega arith)) short) (ap (λ ps. unwrap_or (last_of ps) []) (text_own 1 t refl) ∙ blob_written t)

schema_from : (bytes : List ℕ) (records : List Record) (schema : List ℕ) → records_of bytes ≡ Ok records → text_in 1 records ≡ Ok schema → avro_schema_of bytes ≡ Ok (record { schema = schema })
unfolding avro_schema_of
schema_from bytes records schema read p = rw (read, p) refl

pub schema_back : (schema : AvroSchema) → IsAvroSchema schema → length (avro_schema_bytes schema) < 2 ^ 32 → avro_schema_of (avro_schema_bytes schema) ≡ Ok schema
unfolding avro_schema_bytes
schema_back schema holds short =
    let t : List ℕ = schema.schema in
    let rs : List Record = text_field 1 t in
    schema_from (message_of rs) rs t (records_back rs (text_numbered 1 t (omega arith) (omega arith)) short) (text_back 1 rs t (text_own 1 t refl) holds.schema)

stream_from : (bytes : List ℕ) (records : List Record) (name : List ℕ) → records_of bytes ≡ Ok records → text_in 1 records ≡ Ok name → read_stream_of bytes ≡ Ok (record { name = name })
unfolding read_stream_of
stream_from bytes records name read p = rw (read, p) refl

pub stream_back : (stream : ReadStream) → IsReadStream stream → length (read_stream_bytes stream) < 2 ^ 32 → read_stream_of (read_stream_bytes stream) ≡ Ok stream
unfolding read_stream_bytes
stream_back stream holds short =
    let t : List ℕ = stream.name in
    let rs : List Record = text_field 1 t in
    stream_from (message_of rs) rs t (records_back rs (text_numbered 1 t (omega arith) (omega arith)) short) (text_back 1 rs t (text_own 1 t refl) holds.name)
