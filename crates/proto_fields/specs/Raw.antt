-- Payloads as they are read, among the bytes of their message.
use Rattle.std.specs.Prelude.{ℕ, length}
use Rattle.proto_fields.specs.declared.payloads.Raw.{Raw}
use Rattle.proto_fields.specs.declared.payloads.Raw.TheVariants as raw
use Rattle.proto_fields.specs.Record.{Payload, Varint, Fixed64, Len, Fixed32}

abbrev pub payload_of : Raw → Payload
payload_of (raw.Varint n) = Varint n
payload_of (raw.Fixed64 n) = Fixed64 n
payload_of (raw.Len bytes) = Len bytes.now
payload_of (raw.Fixed32 n) = Fixed32 n

-- how many of the message's bytes it holds
abbrev pub raw_size : Raw → ℕ
raw_size (raw.Varint n) = 0
raw_size (raw.Fixed64 n) = 0
raw_size (raw.Len bytes) = length bytes.now
raw_size (raw.Fixed32 n) = 0
