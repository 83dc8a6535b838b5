-- How the fields of a message are written: the Protocol Buffers encoding guide. A number 0, an empty text and an absent
-- message are not written; a message that is present is written though it is empty.
use Rattle.std.specs.Prelude.{ℕ, ℤ, List, [], ◌∷◌, map, Option, Some, None, ◌==◌, if◌then◌else◌}
use Rattle.std.specs.Int.{w64, cast_unsigned}
use Rattle.proto_fields.specs.Record.{Record, Payload, Varint, Len}

abbrev pub field_of : ℕ → Payload → Record
field_of number payload = record { number = number; payload = payload }

abbrev pub bytes_field : ℕ → List ℕ → Record
bytes_field number bytes = field_of number (Len bytes)

abbrev pub text_field : ℕ → List ℕ → List Record
text_field number [] = []
text_field number (b ∷ bytes) = bytes_field number (b ∷ bytes) ∷ []

abbrev pub varint_field : ℕ → ℕ → List Record
varint_field number n = if n == 0 then [] else field_of number (Varint n) ∷ []

-- an int32 or int64, as the 64 bits of its two's complement
abbrev pub int_field : ℕ → ℤ → List Record
int_field number n = varint_field number (cast_unsigned w64 n)

abbrev pub message_field : ℕ → Option (List ℕ) → List Record
message_field number None = []
message_field number (Some bytes) = bytes_field number bytes ∷ []

-- a repeated field, its occurrences in order
abbrev pub repeated_field : ℕ → List (List ℕ) → List Record
repeated_field number items = map (bytes_field number) items
