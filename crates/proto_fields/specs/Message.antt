-- A message is a list of records, one behind the other.
use Rattle.std.specs.Prelude.{ℕ, zero, suc, ◌+◌, ◌-◌, ◌<◌, ◌≤◌, ◌^◌, List, [], ◌∷◌, length, map, Option, Some, None, Result, Ok, Err}
use Rattle.std.specs.List.{flat_map}
use Rattle.proto_fields.specs.Record.{Payload, Varint, Fixed64, Len, Fixed32, Record, record_at, record_bytes}

-- A record where it stands in a message: the place of its tag, which is its first byte, and the place behind its last.
pub record Placed : Type 0 where
  pub tag : ℕ
  pub end : ℕ
  pub content : Record

-- the list with one more at its front, or the place of what could not be read
abbrev pub with_first : {A : Type 0} → A → Result (List A) ℕ → Result (List A) ℕ
with_first first (Ok others) = Ok (first ∷ others)
with_first first (Err at) = Err at

-- The record that begins at a place, of which the first byte is gone already, and then the others.
abbrev pub first_and_others : ℕ → List ℕ → Option (Record × List ℕ) → (ℕ → Result (List Placed) ℕ) → Result (List Placed) ℕ
first_and_others at bytes None others = Err at
first_and_others at bytes (Some read) others =
    with_first (record { tag = at; end = at + 1 + (length bytes - length read.1); content = read.0 }) (others (length bytes - length read.1))

-- The records of the bytes from a place on, of which the first few still belong to the record before.
unfoldable pub placed_from : ℕ → List ℕ → ℕ → Result (List Placed) ℕ
placed_from at [] held = Ok []
placed_from at (b ∷ bytes) (suc held) = placed_from (at + 1) bytes held
placed_from at (b ∷ bytes) zero = first_and_others at bytes (record_at (b ∷ bytes)) (placed_from (at + 1) bytes)

-- The records of a message where they stand, or the place of the first that can't be read.
abbrev pub placed_of : List ℕ → Result (List Placed) ℕ
placed_of bytes = placed_from 0 bytes 0

abbrev pub contents : Result (List Placed) ℕ → Result (List Record) ℕ
contents (Ok placed) = Ok (map (λ p. p.content) placed)
contents (Err at) = Err at

-- The records of a message, or the place of the tag of the first that can't be read.
abbrev pub fields_of : List ℕ → Result (List Record) ℕ
fields_of bytes = contents (placed_of bytes)

-- The one spelling of records that has shortest varints.
abbrev pub message_of : List Record → List ℕ
message_of records = flat_map record_bytes records

-- which numbers a payload can carry
abbrev pub HasRange : Payload → Type 0
HasRange (Varint n) = n < 2 ^ 64
HasRange (Fixed64 n) = n < 2 ^ 64
HasRange (Len bytes) = length bytes < 2 ^ 64
HasRange (Fixed32 n) = n < 2 ^ 32

-- which records have a spelling
pub record HasSpelling (r : Record) : Type 0 where
  pub low : 1 ≤ r.number
  pub high : r.number ≤ 536870911
  pub range : HasRange r.payload
