-- The rows of a request, and its descriptor, are no larger than its message.
use Rattle.std.proofs.Common.{◌≡◌, ℕ, ℤ, ◌+◌, ◌≤◌, ◌<◌, List, [], ◌∷◌, length, sum_by, Option, Some, None, unwrap_or, Result, Ok, Err, IfOk, IfSome, refl, sym, ap, subst, ◌∙◌, arith}
use Rattle.proto_fields.specs.Record.{Record}
use Rattle.proto_fields.specs.Message.{fields_of}
use Rattle.proto_fields.specs.Selection.{payloads_of, merged_of}
use Rattle.write_msgs.specs.declared.faults.MsgFault.{MsgFault}
use Rattle.write_msgs.specs.declared.request.AppendRowsRequest.{AppendRowsRequest}
use Rattle.write_msgs.specs.declared.request_parts.ProtoData.{ProtoData}
use Rattle.write_msgs.specs.declared.request_parts.ProtoRows.{ProtoRows}
use Rattle.write_msgs.specs.declared.request_parts.ProtoSchema.{ProtoSchema}
use Rattle.write_msgs.specs.declared.numbers.TheConstants.{PROTO_ROWS, ARROW_ROWS, WRITER_SCHEMA, ROWS, PROTO_DESCRIPTOR, SERIALIZED_ROWS}
use Rattle.write_msgs.specs.Faults.{both, last_place}
use Rattle.write_msgs.specs.Reading.{◌>>=◌, records_of, refused_at, nested, nested_from, present_at, without}
use Rattle.write_msgs.specs.Request.{proto_schema_of, proto_rows_of, proto_data_of, place_in, data_in, append_rows_request_of}
use Rattle.call_append.specs.Writer.{schema_in, schema_named, rows_in, rows_named}
use Rattle.call_append.specs.Sizes.{IsRowsWithin, IsWithin}
use Rattle.call_append.proofs.MessageSizes.{cost, fields_fit, payloads_fit, merged_fits}

-- readings in a row hold of the last what each says
bind_keeps : {A B : Type 0} (P : B → Type 0) (r : Result A MsgFault) (f : A → Result B MsgFault) → IfOk r (λ x. IfOk (f x) P) → IfOk (r >>= f) P
bind_keeps P (Ok x) f h = h
bind_keeps P (Err e) f h = tt

both_keeps : {A B : Type 0} (P : A → Type 0) (Q : B → Type 0) (a : Result A MsgFault) (b : Result B MsgFault) → IfOk a P → IfOk b Q → IfOk (both a b) (λ x. P x.0 × Q x.1)
both_keeps P Q (Ok a) (Ok b) p q = (p, q)
both_keeps P Q (Ok a) (Err e) p q = tt
both_keeps P Q (Err d) (Ok b) p q = tt
both_keeps P Q (Err d) (Err e) p q = tt

present_keeps : {A : Type 0} (P : A → Type 0) (place : ℕ) (r : Result A MsgFault) → IfOk r P → IfOk (present_at place r) (λ x. IfSome x P)
present_keeps P place (Ok x) h = h
present_keeps P place (Err e) h = tt

nested_keeps : {A : Type 0} (P : A → Type 0) (of : List ℕ → Result A MsgFault) (place : ℕ) (o : Option (List ℕ)) → IfSome o (λ bytes. IfOk (of bytes) P) → IfOk (nested_from of place o) (λ x. IfSome x P)
nested_keeps P of place (Some bytes) h = present_keeps P place (of bytes) h
nested_keeps P of place None h = tt

records_fit : (bytes : List ℕ) → IfOk (records_of bytes) (λ records. sum_by cost records ≤ length bytes)
records_fit bytes = of (fields_of bytes) (fields_fit bytes)
  where
    of : (r : Result (List Record) ℕ) → IfOk r (λ records. sum_by cost records ≤ length bytes) → IfOk (refused_at r) (λ records. sum_by cost records ≤ length bytes)
    of (Ok records) h = h
    of (Err at) h = tt

weaker : {X Y : Type 0} (r : Result X Y) (P Q : X → Type 0) → ((x : X) → P x → Q x) → IfOk r P → IfOk r Q
weaker (Ok x) P Q f h = f x h
weaker (Err e) P Q f h = tt

weaker_some : {X : Type 0} (o : Option X) (P Q : X → Type 0) → ((x : X) → P x → Q x) → IfSome o P → IfSome o Q
weaker_some (Some x) P Q f h = f x h
weaker_some None P Q f h = tt

anything : {X Y : Type 0} (r : Result X Y) → IfOk r (λ _. Unit {0})
anything (Ok x) = tt
anything (Err e) = tt

-- a message within a message that is no larger than a size
nested_within : {A : Type 0} (P : A → Type 0) (of : List ℕ → Result A MsgFault) (number size : ℕ) (bytes : List ℕ) (records : List Record)
    → ((inner : List ℕ) → length inner ≤ size → IfOk (of inner) P) → sum_by cost records ≤ size → IfOk (nested of number bytes records) (λ x. IfSome x P)
nested_within P of number size bytes records each small =
    nested_keeps P of (last_place number bytes) (merged_of (payloads_of number records)) (
    weaker_some (merged_of (payloads_of number records)) (λ inner. length inner ≤ sum_by cost records) (λ inner. IfOk (of inner) P) (λ inner le. each inner (omega (arith, le, small))) (merged_fits number records))

-- the fields of a message that is no larger than a size
records_within : {B : Type 0} (P : B → Type 0) (size : ℕ) (bytes : List ℕ) (f : List Record → Result B MsgFault) → length bytes ≤ size
    → ((records : List Record) → sum_by cost records ≤ size → IfOk (f records) P) → IfOk (records_of bytes >>= f) P
records_within P size bytes f le each =
    bind_keeps P (records_of bytes) f (weaker (records_of bytes) (λ records. sum_by cost records ≤ length bytes) (λ records. IfOk (f records) P) (λ records small. each records (omega (arith, le, small))) (records_fit bytes))

abbrev SchemaWithin : ℕ → ProtoSchema → Type 0
SchemaWithin size schema = IfSome schema.proto_descriptor (λ d. length d ≤ size)

abbrev RowsWithin : ℕ → ProtoRows → Type 0
RowsWithin size rows = IsRowsWithin size rows.serialized_rows

record SentWithin (size : ℕ) (sent : ProtoData) : Type 0 where
  rows : IsRowsWithin size (rows_in sent)
  schema : IfSome (schema_in sent) (λ descriptor. length descriptor ≤ size)

schema_fits : (size : ℕ) (bytes : List ℕ) → length bytes ≤ size → IfOk (proto_schema_of bytes) (SchemaWithin size)
unfolding proto_schema_of
schema_fits size bytes le =
    records_within (SchemaWithin size) size bytes (λ records. Ok (record { proto_descriptor = merged_of (payloads_of PROTO_DESCRIPTOR records) })) le (λ records small.
    weaker_some (merged_of (payloads_of PROTO_DESCRIPTOR records)) (λ d. length d ≤ sum_by cost records) (λ d. length d ≤ size) (λ d inner. omega (arith, inner, small)) (merged_fits PROTO_DESCRIPTOR records))

rows_fit : (size : ℕ) (bytes : List ℕ) → length bytes ≤ size → IfOk (proto_rows_of bytes) (RowsWithin size)
unfolding proto_rows_of
rows_fit size bytes le =
    records_within (RowsWithin size) size bytes (λ records. Ok (record { serialized_rows = payloads_of SERIALIZED_ROWS records })) le (λ records small.
    record { few = omega (arith, small, payloads_fit SERIALIZED_ROWS records); small = omega (arith, small, payloads_fit SERIALIZED_ROWS records) })

descriptor_kept : (size : ℕ) (o : Option (List ℕ)) → IfSome o (λ d. length d ≤ size) → length (unwrap_or o []) ≤ size
descriptor_kept size (Some d) h = h
descriptor_kept size None h = omega arith

sent_kept : (size : ℕ) (schema : Option ProtoSchema) (rows : Option ProtoRows) → IfSome schema (SchemaWithin size) → IfSome rows (RowsWithin size) → SentWithin size (record { writer_schema = schema; rows = rows })
sent_kept size None None s r = record { rows = record { few = omega arith; small = omega arith }; schema = tt }
sent_kept size (Some schema) None s r = record { rows = record { few = omega arith; small = omega arith }; schema = descriptor_kept size schema.proto_descriptor s }
sent_kept size None (Some rows) s r = record { rows = r; schema = tt }
sent_kept size (Some schema) (Some rows) s r = record { rows = r; schema = descriptor_kept size schema.proto_descriptor s }

sent_fits : (size : ℕ) (bytes : List ℕ) → length bytes ≤ size → IfOk (proto_data_of bytes) (SentWithin size)
unfolding proto_data_of
sent_fits size bytes le =
    let made : Option ProtoSchema × Option ProtoRows → Result ProtoData MsgFault = λ parts. Ok (record { writer_schema = parts.0; rows = parts.1 }) in
    records_within (SentWithin size) size bytes (λ records. both (nested proto_schema_of WRITER_SCHEMA bytes records) (nested proto_rows_of ROWS bytes records) >>= made) le (λ records small.
    let schema : Result (Option ProtoSchema) MsgFault = nested proto_schema_of WRITER_SCHEMA bytes records in
    let rows : Result (Option ProtoRows) MsgFault = nested proto_rows_of ROWS bytes records in
    bind_keeps (SentWithin size) (both schema rows) made (
    weaker (both schema rows) (λ parts. IfSome parts.0 (SchemaWithin size) × IfSome parts.1 (RowsWithin size)) (λ parts. SentWithin size (record { writer_schema = parts.0; rows = parts.1 })) (λ parts h. sent_kept size parts.0 parts.1 h.0 h.1) (
    both_keeps (λ o. IfSome o (SchemaWithin size)) (λ o. IfSome o (RowsWithin size)) schema rows (
    nested_within (SchemaWithin size) proto_schema_of WRITER_SCHEMA size bytes records (schema_fits size) small) (
    nested_within (RowsWithin size) proto_rows_of ROWS size bytes records (rows_fit size) small))))

request_kept : (size : ℕ) (name : List ℕ) (offset : Option ℤ) (sent : Option ProtoData) → IfSome sent (SentWithin size) → IsWithin size (record { write_stream = name; offset = offset; proto_rows = sent })
request_kept size name offset (Some sent) h = record { rows = h.rows; schema = h.schema }
request_kept size name offset None h = record { rows = record { few = omega arith; small = omega arith }; schema = tt }

-- the rows of a request and its descriptor are no larger than the message
pub request_fits : (bytes : List ℕ) → IfOk (append_rows_request_of bytes) (IsWithin (length bytes))
unfolding append_rows_request_of
request_fits bytes =
    let size : ℕ = length bytes in
    let made : (List ℕ × Option ℤ) × (Option ProtoData × Unit {0}) → Result AppendRowsRequest MsgFault = λ parts. Ok (record { write_stream = parts.0.0; offset = parts.0.1; proto_rows = parts.1.0 }) in
    records_within (IsWithin size) size bytes (λ records. both (place_in bytes records) (data_in bytes records) >>= made) (omega arith) (λ records small.
    let sent : Result (Option ProtoData) MsgFault = nested proto_data_of PROTO_ROWS bytes records in
    bind_keeps (IsWithin size) (both (place_in bytes records) (data_in bytes records)) made (
    weaker (both (place_in bytes records) (data_in bytes records)) (λ parts. Unit {0} × IfSome parts.1.0 (SentWithin size)) (λ parts. IsWithin size (record { write_stream = parts.0.0; offset = parts.0.1; proto_rows = parts.1.0 })) (λ parts h. request_kept size parts.0.0 parts.0.1 parts.1.0 h.1) (
    both_keeps (λ _. Unit {0}) (λ x. IfSome x.0 (SentWithin size)) (place_in bytes records) (data_in bytes records) (anything (place_in bytes records)) (
    weaker (data_in bytes records) (λ x. IfSome x.0 (SentWithin size) × Unit {0}) (λ x. IfSome x.0 (SentWithin size)) (λ x h. h.0) (
    both_keeps (λ o. IfSome o (SentWithin size)) (λ _. Unit {0}) sent (without ARROW_ROWS records) (
    nested_within (SentWithin size) proto_data_of PROTO_ROWS size bytes records (sent_fits size) small) (anything (without ARROW_ROWS records)))))))
