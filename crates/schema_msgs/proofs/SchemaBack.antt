-- Fields that were written read back, and those within them.
use Rattle.std.proofs.Common.{◌≡◌, ℕ, ℤ, ◌+◌, ◌*◌, ◌<◌, ◌^◌, Bool, true, false, List, [], ◌∷◌, ◌++◌, length, map, Ok, refl, sym, ap, subst, ◌∙◌, length-append, arith}
use Rattle.std.proofs.Math.Facts.{Fits-of_z}
use Rattle.std.specs.Prelude.{◌==◌, Option, Some, None, FitsSigned}
use Rattle.std.specs.Int.{w32, w64, cast_unsigned}
use Rattle.std.specs.List.{AllByRecursion}
use Rattle.std.specs.Str.{IsUtf8}
use Rattle.proto_fields.specs.Varint.{varint_of}
use Rattle.proto_fields.specs.Record.{Record, record_bytes}
use Rattle.proto_fields.specs.Message.{message_of}
use Rattle.proto_fields.specs.Selection.{bytes_for, varint_for, payloads_of, varints_of}
use Rattle.write_msgs.specs.Faults.{both}
use Rattle.write_msgs.specs.Reading.{◌>>=◌, records_of, text_in, int32_in}
use Rattle.write_msgs.specs.Repeated.{located, joined, items_from, placed_items}
use Rattle.write_msgs.specs.Writing.{bytes_field, text_field, int_field, message_field, repeated_field}
use Rattle.write_msgs.proofs.ReadBack.{Numbered, records_back, numbered_both, text_numbered, repeated_numbered, varint_numbered, text_own, repeated_own, varint_own, varint_other, varint_payloads, text_other, text_varints, repeated_other, in_front, behind, sizes_of_two, text_back, int32_back, wider}
use Rattle.schema_msgs.specs.declared.schemas.TableFieldSchema.{TableFieldSchema}
use Rattle.schema_msgs.specs.Fields.{Fields, NoFields, Field}
use Rattle.schema_msgs.specs.Schema.{gathered, fields_in, field_by, table_field_schema_of, table_schema_of}
use Rattle.schema_msgs.specs.SchemaBytes.{own_records, field_records, table_field_schema_bytes, table_schema_bytes}
use Rattle.schema_msgs.specs.RoundTrip.{AreFields, FieldsReadBack, SchemasReadBack}
use Rattle.schema_msgs.proofs.LevelLemmas.{fields_nest}

-- the messages of a list of fields
unfoldable pub messages_of : Fields → List TableFieldSchema
messages_of NoFields = []
messages_of (Field name column_type mode within others) = record { name = name; column_type = column_type; mode = mode; fields = within } ∷ messages_of others

gathered_messages : (fs : Fields) → gathered (messages_of fs) ≡ fs
unfolding gathered messages_of
gathered_messages NoFields = refl
gathered_messages (Field name column_type mode within others) = ap (Field name column_type mode within) (gathered_messages others)

records_are : (number : ℕ) (fs : Fields) → field_records number fs ≡ repeated_field number (map table_field_schema_bytes (messages_of fs))
unfolding field_records messages_of table_field_schema_bytes
records_are number NoFields = refl
records_are number (Field name column_type mode within others) =
    ap (λ rs. bytes_field number (message_of (own_records name column_type mode ++ field_records 4 within)) ∷ rs) (records_are number others)

-- messages are no numbers
no_varint : (same : Bool) (k n : ℕ) (bytes : List ℕ) → (n == k) ≡ same → varints_of k (bytes_field n bytes ∷ []) ≡ []
no_varint true k n bytes is = rw is refl
no_varint false k n bytes is = rw is refl

pub repeated_varints : (k n : ℕ) (items : List (List ℕ)) → varints_of k (repeated_field n items) ≡ []
repeated_varints k n [] = refl
repeated_varints k n (item ∷ items) = behind (varint_for k) (bytes_field n item ∷ []) (repeated_field n items) (no_varint (n == k) k n item refl) (repeated_varints k n items)

pub message_varints : (k n : ℕ) (o : Option (List ℕ)) → varints_of k (message_field n o) ≡ []
message_varints k n None = refl
message_varints k n (Some bytes) = no_varint (n == k) k n bytes refl

fields_numbered : (number : ℕ) (fs : Fields) → 1 < number + 1 → number < 536870912 → AllByRecursion Numbered (field_records number fs)
fields_numbered number fs low high = subst (AllByRecursion Numbered) (sym (records_are number fs)) (repeated_numbered number (map table_field_schema_bytes (messages_of fs)) (omega (arith, low)) (omega (arith, high)))

fields_own : (number : ℕ) (fs : Fields) → (number == number) ≡ true → payloads_of number (field_records number fs) ≡ map table_field_schema_bytes (messages_of fs)
fields_own number fs same = ap (payloads_of number) (records_are number fs) ∙ repeated_own number (map table_field_schema_bytes (messages_of fs)) same

fields_other : (k number : ℕ) (fs : Fields) → (number == k) ≡ false → payloads_of k (field_records number fs) ≡ []
fields_other k number fs other = ap (payloads_of k) (records_are number fs) ∙ repeated_other k number (map table_field_schema_bytes (messages_of fs)) other

fields_varints : (k number : ℕ) (fs : Fields) → varints_of k (field_records number fs) ≡ []
fields_varints k number fs = ap (varints_of k) (records_are number fs) ∙ repeated_varints k number (map table_field_schema_bytes (messages_of fs))

-- the fields in a message, given the items of their field
fields_from : (number : ℕ) (bytes : List ℕ) (records : List Record) (fs : Fields) → payloads_of number records ≡ map table_field_schema_bytes (messages_of fs)
    → items_from table_field_schema_of 0 (map table_field_schema_bytes (messages_of fs)) ≡ Ok (messages_of fs) → fields_in table_field_schema_of number bytes records ≡ Ok fs
fields_from number bytes records fs own items =
    ap (λ ps. placed_items number bytes (items_from table_field_schema_of 0 ps) >>= λ fields. Ok (gathered fields)) own
    ∙ ap (λ all. placed_items number bytes all >>= λ fields. Ok (gathered fields)) items ∙ ap Ok (gathered_messages fs)

field_from : (bytes : List ℕ) (records : List Record) (name : List ℕ) (column_type mode : ℤ) (fs : Fields) → records_of bytes ≡ Ok records → text_in 1 records ≡ Ok name → int32_in 2 records ≡ column_type
    → int32_in 3 records ≡ mode → fields_in table_field_schema_of 4 bytes records ≡ Ok fs → field_by table_field_schema_of bytes ≡ Ok (record { name = name; column_type = column_type; mode = mode; fields = fs })
field_from bytes records name column_type mode fs read p q r s = rw (read, p, s, q, r) refl

one_back : (name : List ℕ) (column_type mode : ℤ) (within : Fields) → IsUtf8 name → FitsSigned w32 column_type → FitsSigned w32 mode
    → length (message_of (own_records name column_type mode ++ field_records 4 within)) < 2 ^ 32
    → items_from table_field_schema_of 0 (map table_field_schema_bytes (messages_of within)) ≡ Ok (messages_of within)
    → table_field_schema_of (message_of (own_records name column_type mode ++ field_records 4 within)) ≡ Ok (record { name = name; column_type = column_type; mode = mode; fields = within })
one_back name column_type mode within good fits fits_mode short items =
    let one : List Record = text_field 1 name in
    let two : List Record = int_field 2 column_type in
    let three : List Record = int_field 3 mode in
    let four : List Record = field_records 4 within in
    let v : ℕ = cast_unsigned w64 column_type in
    let w : ℕ = cast_unsigned w64 mode in
    let rs : List Record = one ++ two ++ three ++ four in
    let numbered : AllByRecursion Numbered rs =
    numbered_both (one ++ two ++ three) four
    (
    numbered_both (one ++ two) three
    (numbered_both one two (text_numbered 1 name (omega arith) (omega arith)) (varint_numbered 2 v (Fits-of_z (wider column_type fits)).fits (omega arith) (omega arith)))
    (varint_numbered 3 w (Fits-of_z (wider mode fits_mode)).fits (omega arith) (omega arith))
    )
    (fields_numbered 4 within (omega arith) (omega arith)) in
    let read : records_of (message_of rs) ≡ Ok rs = records_back rs numbered short in
    let text : text_in 1 rs ≡ Ok name =
    text_back 1 rs name
    (in_front (bytes_for 1) (one ++ two ++ three) four (in_front (bytes_for 1) (one ++ two) three (in_front (bytes_for 1) one two (text_own 1 name refl) (varint_payloads 1 2 v)) (varint_payloads 1 3 w)) (fields_other 1 4 within refl)) good in
    let type_code : int32_in 2 rs ≡ column_type =
    int32_back 2 rs column_type
    (in_front (varint_for 2) (one ++ two ++ three) four (in_front (varint_for 2) (one ++ two) three (behind (varint_for 2) one two (text_varints 2 1 name) (varint_own 2 v refl)) (varint_other 2 3 w refl)) (fields_varints 2 4 within)) fits in
    let mode_code : int32_in 3 rs ≡ mode =
    int32_back 3 rs mode
    (in_front (varint_for 3) (one ++ two ++ three) four (behind (varint_for 3) (one ++ two) three (behind (varint_for 3) one two (text_varints 3 1 name) (varint_other 3 2 v refl)) (varint_own 3 w refl)) (fields_varints 3 4 within)) fits_mode in
    let own : payloads_of 4 rs ≡ map table_field_schema_bytes (messages_of within) =
    behind (bytes_for 4) (one ++ two ++ three) four (behind (bytes_for 4) (one ++ two) three (behind (bytes_for 4) one two (text_other 4 1 name refl) (varint_payloads 4 2 v)) (varint_payloads 4 3 w)) (fields_own 4 within refl) in
    fields_nest (message_of rs) ∙ field_from (message_of rs) rs name column_type mode within read text type_code mode_code (fields_from 4 (message_of rs) rs within own items)

record_short : (n : ℕ) (bytes : List ℕ) → length (record_bytes (bytes_field n bytes)) < 2 ^ 32 → length bytes < 2 ^ 32
record_short n bytes short =
    let whole = length-append (varint_of (n * 8 + 2)) (varint_of (length bytes) ++ bytes) in
    let last = length-append (varint_of (length bytes)) bytes in
    omega (arith, short, whole, last)

-- by the list of fields, each with those within it
items_back : (number n : ℕ) (fs : Fields) → AreFields fs → length (message_of (field_records number fs)) < 2 ^ 32 → items_from table_field_schema_of n (map table_field_schema_bytes (messages_of fs)) ≡ Ok (messages_of fs)
unfolding items_from messages_of field_records table_field_schema_bytes AreFields
items_back number n NoFields holds short = refl
items_back number n (Field name column_type mode within others) holds short =
    let bytes : List ℕ = message_of (own_records name column_type mode ++ field_records 4 within) in
    let size = length-append (record_bytes (bytes_field number bytes)) (message_of (field_records number others)) in
    let here_short : length bytes < 2 ^ 32 = record_short number bytes (omega (arith, short, size)) in
    let inner = sizes_of_two (own_records name column_type mode) (field_records 4 within) in
    let inside = items_back 4 0 within holds.1.1.1.0 (omega (arith, here_short, inner)) in
    let here = one_back name column_type mode within holds.0 holds.1.0 holds.1.1.0 here_short inside in
    let behind_it = items_back number (n + 1) others holds.1.1.1.1 (omega (arith, short, size)) in
    ap (λ r. joined (both (located n r) (items_from table_field_schema_of (n + 1) (map table_field_schema_bytes (messages_of others))))) here
    ∙ ap (λ r. joined (both (Ok (record { name = name; column_type = column_type; mode = mode; fields = within })) r)) behind_it

pub fields_read_back : FieldsReadBack
unfolding table_field_schema_bytes
fields_read_back field holds short =
    let size = sizes_of_two (own_records field.name field.column_type field.mode) (field_records 4 field.fields) in
    one_back field.name field.column_type field.mode field.fields holds.name holds.column_type holds.mode short (items_back 4 0 field.fields holds.fields (omega (arith, short, size)))

schema_from : (bytes : List ℕ) (records : List Record) (fs : Fields) → records_of bytes ≡ Ok records → fields_in table_field_schema_of 1 bytes records ≡ Ok fs → table_schema_of bytes ≡ Ok (record { fields = fs })
unfolding table_schema_of
schema_from bytes records fs read p = rw (read, p) refl

pub schemas_read_back : SchemasReadBack
unfolding table_schema_bytes
schemas_read_back schema holds short =
    let rs : List Record = field_records 1 schema.fields in
    let read : records_of (message_of rs) ≡ Ok rs = records_back rs (fields_numbered 1 schema.fields (omega arith) (omega arith)) short in
    schema_from (message_of rs) rs schema.fields read (fields_from 1 (message_of rs) rs schema.fields (fields_own 1 schema.fields refl) (items_back 1 0 schema.fields holds.fields short))
