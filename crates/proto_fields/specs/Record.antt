-- One record of a message: "Message Structure" of the Protocol Buffers encoding. A record is a tag and a payload;
-- the tag is a varint, the field's number times 8 plus the wire type of the payload.
use Rattle.std.specs.Prelude.{ℕ, zero, suc, ◌+◌, ◌*◌, ◌/◌, ◌%◌, List, ◌++◌, length, take, drop, Option, Some, None, nat_lt, nat_le, ◌&&◌, if◌then◌else◌}
use Rattle.std.specs.Int.{Width, w32, w64, byte_len, from_le_bytes, to_le_bytes}
use Rattle.proto_fields.specs.declared.tags.WireType.{WireType}
use Rattle.proto_fields.specs.declared.tags.WireType.TheVariants as wire
use Rattle.proto_fields.specs.declared.tags.Tag.{Tag}
use Rattle.proto_fields.specs.Chain.{◌>>=◌}
use Rattle.proto_fields.specs.Varint.{varint_at, varint_of}

-- What a record carries: a varint, eight bytes, bytes with their length before them, or four bytes.
pub data Payload : Type 0 where
  Varint : ℕ → Payload
  Fixed64 : ℕ → Payload
  Len : List ℕ → Payload
  Fixed32 : ℕ → Payload

pub record Record : Type 0 where
  pub number : ℕ
  pub payload : Payload

-- Wire types 3 and 4, which are groups, and 6 and 7 are refused.
abbrev pub wire_type_of : ℕ → Option WireType
wire_type_of zero = Some wire.Varint
wire_type_of (suc zero) = Some wire.Fixed64
wire_type_of (suc (suc zero)) = Some wire.Len
wire_type_of (suc (suc (suc (suc (suc zero))))) = Some wire.Fixed32
wire_type_of other = None

-- The numbers of fields are 1 to 536,870,911.
abbrev pub tag_of : ℕ → Option Tag
tag_of n = if nat_le 1 (n / 8) && nat_le (n / 8) 536870911 then (wire_type_of (n % 8) >>= λ kind. Some (record { number = n / 8; wire_type = kind })) else None

unfoldable pub tag_at : List ℕ → Option (Tag × List ℕ)
tag_at bytes = do
  n ← varint_at bytes
  tag ← tag_of n.0
  Some (tag, n.1)

-- A number of fixed size, its lowest byte first.
abbrev pub fixed_at : Width → List ℕ → Option (ℕ × List ℕ)
fixed_at w bytes = if nat_lt (length bytes) (byte_len w) then None else Some (from_le_bytes w (take (byte_len w) bytes), drop (byte_len w) bytes)

-- A length, which is a varint, and so many bytes.
unfoldable pub len_at : List ℕ → Option (List ℕ × List ℕ)
len_at bytes = do
  n ← varint_at bytes
  if nat_lt (length n.1) n.0 then None else Some (take n.0 n.1, drop n.0 n.1)

unfoldable pub payload_at : WireType → List ℕ → Option (Payload × List ℕ)
payload_at wire.Varint bytes = varint_at bytes >>= λ n. Some (Varint n.0, n.1)
payload_at wire.Fixed64 bytes = fixed_at w64 bytes >>= λ n. Some (Fixed64 n.0, n.1)
payload_at wire.Len bytes = len_at bytes >>= λ n. Some (Len n.0, n.1)
payload_at wire.Fixed32 bytes = fixed_at w32 bytes >>= λ n. Some (Fixed32 n.0, n.1)

-- The record at the front, and the bytes behind it. There is none where the tag has no such number or wire type,
-- where a varint is longer than ten bytes, and where bytes are missing.
unfoldable pub record_at : List ℕ → Option (Record × List ℕ)
record_at bytes = do
  tag ← tag_at bytes
  payload ← payload_at tag.0.wire_type tag.1
  Some (record { number = tag.0.number; payload = payload.0 }, payload.1)

-- How a payload is written, and the number of its wire type.
abbrev pub payload_bytes : Payload → List ℕ
payload_bytes (Varint n) = varint_of n
payload_bytes (Fixed64 n) = to_le_bytes w64 n
payload_bytes (Len bytes) = varint_of (length bytes) ++ bytes
payload_bytes (Fixed32 n) = to_le_bytes w32 n

abbrev pub wire_number : Payload → ℕ
wire_number (Varint n) = 0
wire_number (Fixed64 n) = 1
wire_number (Len bytes) = 2
wire_number (Fixed32 n) = 5

abbrev pub record_bytes : Record → List ℕ
record_bytes r = varint_of (r.number * 8 + wire_number r.payload) ++ payload_bytes r.payload

-- what stands in front of the bytes of a payload of wire type 2: the tag, and their number
abbrev pub head_bytes : ℕ → ℕ → List ℕ
head_bytes number len = varint_of (number * 8 + 2) ++ varint_of len
