-- Fields as they lie in a message: payloads of wire type 2 are spans of its bytes.
use Rattle.std.specs.Prelude.{◌≡◌, Result, Ok, Err, ℕ, ◌+◌, ◌-◌, ◌≤◌, List, length, take, drop, map, ◌==◌, if◌then◌else◌, Option, Some, None, IfSome}
use Rattle.std.specs.List.{filter_map}
use Rattle.outside.specs.declared.blobs.Span.{Span}
use Rattle.proto_fields.specs.declared.faults.FieldFault.{FieldFault}
use Rattle.proto_fields.specs.declared.faults.FieldFault.TheVariants as fault
use Rattle.proto_fields.specs.declared.field.Field.{Field}
use Rattle.proto_fields.specs.declared.field.Value.{Value}
use Rattle.proto_fields.specs.declared.field.Value.TheVariants as value
use Rattle.proto_fields.specs.Record.{Payload, Varint, Fixed64, Len, Fixed32, Record}
use Rattle.proto_fields.specs.Message.{Placed}

-- the bytes of a span
abbrev pub part : List ℕ → Span → List ℕ
part bytes span = take span.len (drop span.start bytes)

abbrev pub payload_in : List ℕ → Value → Payload
payload_in bytes (value.Varint n) = Varint n
payload_in bytes (value.Fixed64 n) = Fixed64 n
payload_in bytes (value.Len span) = Len (part bytes span)
payload_in bytes (value.Fixed32 n) = Fixed32 n

-- what a field says, given the bytes of its message
abbrev pub record_in : List ℕ → Field → Record
record_in bytes field = record { number = field.number; payload = payload_in bytes field.value }

abbrev pub records_in : List ℕ → List Field → List Record
records_in bytes fields = map (record_in bytes) fields

-- the value of a payload that ends at a place of its message
abbrev pub value_at : Payload → ℕ → Value
value_at (Varint n) end = value.Varint n
value_at (Fixed64 n) end = value.Fixed64 n
value_at (Len bytes) end = value.Len (record { start = end - length bytes; len = length bytes })
value_at (Fixed32 n) end = value.Fixed32 n

-- a record as a field: a span for its bytes, since these lie in the message
abbrev pub field_at : Placed → Field
field_at p = record { number = p.content.number; value = value_at p.content.payload p.end }

abbrev pub located_fields : Result (List Placed) ℕ → Result (List Field) ℕ
located_fields (Ok placed) = Ok (map field_at placed)
located_fields (Err at) = Err at

abbrev pub span_in : Value → Option Span
span_in (value.Varint n) = None
span_in (value.Fixed64 n) = None
span_in (value.Len span) = Some span
span_in (value.Fixed32 n) = None

-- the span of a field that has this number and wire type 2
abbrev pub span_for : ℕ → Field → Option Span
span_for number field = if field.number == number then span_in field.value else None

-- the spans of all of these, in order
abbrev pub spans_of : ℕ → List Field → List Span
spans_of number fields = filter_map (span_for number) fields

-- The field's span, if it has one, lies within a message of this many bytes.
abbrev pub IsWithin : ℕ → Field → Type 0
IsWithin size field = IfSome (span_in field.value) (λ s. s.start + s.len ≤ size)

-- how many bytes of the message the field's span has
abbrev pub size_in : Value → ℕ
size_in (value.Varint n) = 0
size_in (value.Fixed64 n) = 0
size_in (value.Len span) = span.len
size_in (value.Fixed32 n) = 0

abbrev pub payload_size : Field → ℕ
payload_size field = size_in field.value

-- What was read is what the definition gives, unless memory ran out.
abbrev pub FailsAt : {Y : Type 0} → FieldFault → Result Y ℕ → Type 0
FailsAt fault.Memory read = Unit {0}
FailsAt (fault.BadProto at) read = read ≡ Err at

abbrev pub ReadsMessage : {X Y : Type 0} → (X → Y) → Result X FieldFault → Result Y ℕ → Type 0
ReadsMessage view (Ok x) read = read ≡ Ok (view x)
ReadsMessage view (Err e) read = FailsAt e read
