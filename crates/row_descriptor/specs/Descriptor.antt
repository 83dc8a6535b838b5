-- What the bytes of a DescriptorProto say of the fields of a row's message: descriptor.proto of Protocol Buffers. Of
-- DescriptorProto the fields name (1) and field (2) count, of FieldDescriptorProto the fields name (1), number (3),
-- label (4) and type (5).
use Rattle.std.specs.Prelude.{ℕ, ◌^◌, ◌%◌, Bool, true, false, ◌&&◌, ◌==◌, nat_lt, nat_le, if◌then◌else◌, List, [], ◌∷◌, length, map, Option, Some, None, Ok, Err, Result}
use Rattle.std.specs.Option.{option_map, option_map_or}
use Rattle.std.specs.Str.{is_utf8}
use Rattle.column_types.specs.Name.{is_same_name}
use Rattle.proto_fields.specs.Chain.{◌>>=◌}
use Rattle.proto_fields.specs.Record.{Record}
use Rattle.proto_fields.specs.Message.{fields_of}
use Rattle.proto_fields.specs.Selection.{varints_of, payloads_of, last_of}
use Rattle.row_descriptor.specs.declared.field.DescriptorField.{DescriptorField}
use Rattle.row_descriptor.specs.declared.field.FieldType.{FieldType}
use Rattle.row_descriptor.specs.declared.field.FieldType.TheVariants as type
use Rattle.row_descriptor.specs.declared.field.TheConstants.{LABEL_REPEATED, MAX_NUMBER}
use Rattle.row_descriptor.specs.Distinct.{are_distinct}

-- int32 and enum values are the low 32 bits of a varint. All that count here are at least 0 as signed numbers too.
abbrev pub low_bits : ℕ → ℕ
low_bits n = n % 2 ^ 32

-- FieldDescriptorProto.Type
abbrev pub type_of : ℕ → FieldType
type_of n =
    if n == 3 then type.Int64
    else if n == 4 then type.Uint64
    else if n == 5 then type.Int32
    else if n == 8 then type.Bool
    else if n == 9 then type.Str
    else if n == 12 then type.Bytes
    else if n == 13 then type.Uint32
    else if n == 14 then type.Enum
    else if n == 17 then type.Sint32
    else if n == 18 then type.Sint64
    else type.Other

-- FieldDescriptorProto.Label: no label is as any other than LABEL_REPEATED
abbrev pub is_repeated : Option ℕ → Bool
is_repeated label = option_map_or (λ n. low_bits n == LABEL_REPEATED) label false

abbrev pub is_field_number : ℕ → Bool
is_field_number n = nat_le 1 n && nat_le n MAX_NUMBER

-- the records of a message, where the bytes are one
abbrev pub read_records : Result (List Record) ℕ → Option (List Record)
read_records (Ok records) = Some records
read_records (Err at) = None

abbrev pub records_of : List ℕ → Option (List Record)
records_of bytes = read_records (fields_of bytes)

abbrev pub utf8_of : List ℕ → Option (List ℕ)
utf8_of bytes = if is_utf8 bytes then Some bytes else None

abbrev pub number_of : ℕ → Option ℕ
number_of varint = if is_field_number (low_bits varint) then Some (low_bits varint) else None

abbrev pub name_in : List Record → Option (List ℕ)
name_in records = last_of (payloads_of 1 records) >>= utf8_of

abbrev pub number_in : List Record → Option ℕ
number_in records = last_of (varints_of 3 records) >>= number_of

abbrev pub type_in : List Record → Option FieldType
type_in records = option_map (λ n. type_of (low_bits n)) (last_of (varints_of 5 records))

-- A field has a name that is UTF-8, a number from 1 to 536,870,911 and a type; of each the last one counts.
unfoldable pub field_in : List Record → Option DescriptorField
field_in records = do
  name ← name_in records
  number ← number_in records
  field_type ← type_in records
  Some (record { name = name; number = number; is_repeated = is_repeated (last_of (varints_of 4 records)); field_type = field_type })

abbrev pub field_of : List ℕ → Option DescriptorField
field_of bytes = records_of bytes >>= field_in

-- each of the list, where none is missing
abbrev pub all_of : {A : Type 0} → List (Option A) → Option (List A)
all_of [] = Some []
all_of (first ∷ others) = do
  x ← first
  xs ← all_of others
  Some (x ∷ xs)

-- the message's own name, if it has one, is UTF-8
abbrev pub has_good_name : List Record → Bool
has_good_name records = option_map_or is_utf8 (last_of (payloads_of 1 records)) true

abbrev pub is_same_number : DescriptorField → DescriptorField → Bool
is_same_number f g = f.number == g.number

abbrev pub is_same_field_name : DescriptorField → DescriptorField → Bool
is_same_field_name f g = is_same_name f.name g.name

-- There is a field, and no two have one number, or one name without ASCII case.
abbrev pub are_descriptor : List DescriptorField → Bool
are_descriptor fields = nat_lt 0 (length fields) && are_distinct is_same_number fields && are_distinct is_same_field_name fields

unfoldable pub fields_in : List Record → Option (List DescriptorField)
fields_in records = do
  fields ← all_of (map field_of (payloads_of 2 records))
  if has_good_name records && are_descriptor fields then Some fields else None

-- The fields of a descriptor in their order, or none where the bytes are no good descriptor.
abbrev pub descriptor_of : List ℕ → Option (List DescriptorField)
descriptor_of bytes = records_of bytes >>= fields_in
