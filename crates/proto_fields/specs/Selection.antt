-- What a message says of one field, by its number: fields of another wire type are passed over.
use Rattle.std.specs.Prelude.{ℕ, List, [], ◌∷◌, ◌==◌, if◌then◌else◌, Option, Some, None}
use Rattle.std.specs.List.{filter_map, concat}
use Rattle.std.specs.Option.{option_map}
use Rattle.proto_fields.specs.Record.{Payload, Varint, Fixed64, Len, Fixed32, Record}
use Rattle.proto_fields.specs.Message.{Placed}

abbrev pub varint_in : Payload → Option ℕ
varint_in (Varint n) = Some n
varint_in (Fixed64 n) = None
varint_in (Len bytes) = None
varint_in (Fixed32 n) = None

abbrev pub bytes_in : Payload → Option (List ℕ)
bytes_in (Varint n) = None
bytes_in (Fixed64 n) = None
bytes_in (Len bytes) = Some bytes
bytes_in (Fixed32 n) = None

-- what a record says of the field: its varint, or its bytes
abbrev pub varint_for : ℕ → Record → Option ℕ
varint_for number r = if r.number == number then varint_in r.payload else None

abbrev pub bytes_for : ℕ → Record → Option (List ℕ)
bytes_for number r = if r.number == number then bytes_in r.payload else None

-- the varints of the field, in order
abbrev pub varints_of : ℕ → List Record → List ℕ
varints_of number records = filter_map (varint_for number) records

-- its payloads of wire type 2, in order
abbrev pub payloads_of : ℕ → List Record → List (List ℕ)
payloads_of number records = filter_map (bytes_for number) records

-- where the tags of these stand in the message
abbrev pub tag_for : ℕ → Placed → Option ℕ
tag_for number p = option_map (λ _. p.tag) (bytes_for number p.content)

abbrev pub tags_of : ℕ → List Placed → List ℕ
tags_of number placed = filter_map (tag_for number) placed

-- of a field that has one value the last occurrence counts
abbrev pub last_of : {A : Type 0} → List A → Option A
last_of [] = None
last_of (x ∷ []) = Some x
last_of (x ∷ y ∷ others) = last_of (y ∷ others)

-- of a field that is a message all occurrences are joined
abbrev pub merged_of : List (List ℕ) → Option (List ℕ)
merged_of [] = None
merged_of (first ∷ others) = Some (concat (first ∷ others))
