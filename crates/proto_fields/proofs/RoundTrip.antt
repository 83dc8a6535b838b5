-- What is written reads back.
use Rattle.std.proofs.Common.{◌≡◌, ℕ, zero, suc, ◌+◌, ◌-◌, ◌*◌, ◌/◌, ◌%◌, ◌^◌, ◌<◌, ◌≤◌, false, ltb, List, [], ◌∷◌, ◌++◌, length, Some, Ok, refl, ap, ◌∙◌, inl, inr, append_assoc, length-append, arith}
use Rattle.std.proofs.lemmas.Bool.{cases_lt, le-ltb, lt-ltb, le-leb}
use Rattle.std.proofs.lemmas.List.{take_at, drop_at}
use Rattle.std.proofs.Math.Nat.{pow-suc}
use Rattle.std.proofs.lemmas.Nat.{div_below, from_le_bytes-to_le_bytes_4, from_le_bytes-to_le_bytes_8}
use Rattle.std.specs.Int.{Width, w32, w64, byte_len, to_le_bytes, from_le_bytes}
use Rattle.std.specs.List.{AllByRecursion}
use Rattle.proto_fields.specs.declared.tags.WireType.{WireType}
use Rattle.proto_fields.specs.declared.tags.WireType.TheVariants as wire
use Rattle.proto_fields.specs.Chain.{◌>>=◌}
use Rattle.proto_fields.specs.Varint.{number_at, varint_at, number_of, varint_of}
use Rattle.proto_fields.specs.Record.{Payload, Varint, Fixed64, Len, Fixed32, Record, wire_type_of, tag_of, tag_at, fixed_at, len_at, payload_at, record_at, payload_bytes, wire_number, record_bytes}
use Rattle.proto_fields.specs.Message.{HasRange, HasSpelling, placed_from, contents, fields_of, message_of, with_first}
use Rattle.proto_fields.proofs.RecordLemmas.{record_at-rest}
use Rattle.proto_fields.proofs.MessageLemmas.{placed_from-record}
use Rattle.proto_fields.proofs.MessageLaws.{contents-with_first}

-- a number of one byte
number_at-low : (k n : ℕ) (rest : List ℕ) → n < 128 → number_at (suc k) (number_of (suc k) n ++ rest) ≡ Some (n, rest)
unfolding number_at number_of
number_at-low k n rest lt = rw (lt-ltb n 128 lt) (rw (lt-ltb n 128 lt) refl)

pub number_at-number_of : (k n : ℕ) (rest : List ℕ) → n < 128 ^ suc k → number_at (suc k) (number_of (suc k) n ++ rest) ≡ Some (n, rest)
unfolding number_at number_of
number_at-number_of zero n rest h = number_at-low zero n rest h
number_at-number_of (suc k) n rest h =
    elim (cases_lt n 128) [
      | inl lt ↦ number_at-low (suc k) n rest lt
      | inr ge ↦
          let below : n < 128 ^ suc k * 128 = rw pow-suc at h in
          let high : number_at (suc k) (number_of (suc k) (n / 128) ++ rest) ≡ Some (n / 128, rest) = number_at-number_of k (n / 128) rest (div_below n 128 (128 ^ suc k) (omega arith) below) in
          let whole : (128 + n % 128) % 128 + 128 * (n / 128) ≡ n = omega arith in
          rw (le-ltb n 128 ge, le-ltb (128 + n % 128) 128 (omega arith), high, whole) refl
    ]

-- A varint that was written is read again, whatever follows it.
pub varint_at-varint_of : (n : ℕ) (rest : List ℕ) → n < 2 ^ 64 → varint_at (varint_of n ++ rest) ≡ Some (n, rest)
unfolding varint_at varint_of
varint_at-varint_of n rest h =
    let small : n % 2 ^ 64 ≡ n = omega arith in
    rw (number_at-number_of 9 n rest (omega arith), small) refl

-- the wire type of a payload
abbrev kind_of : Payload → WireType
kind_of (Varint n) = wire.Varint
kind_of (Fixed64 n) = wire.Fixed64
kind_of (Len bytes) = wire.Len
kind_of (Fixed32 n) = wire.Fixed32

wire_type_of-wire_number : (p : Payload) → wire_type_of (wire_number p) ≡ Some (kind_of p)
wire_type_of-wire_number (Varint n) = refl
wire_type_of-wire_number (Fixed64 n) = refl
wire_type_of-wire_number (Len bytes) = refl
wire_type_of-wire_number (Fixed32 n) = refl

wire_number-below : (p : Payload) → wire_number p < 8
wire_number-below (Varint n) = omega arith
wire_number-below (Fixed64 n) = omega arith
wire_number-below (Len bytes) = omega arith
wire_number-below (Fixed32 n) = omega arith

tag_of-spelled : (number kind : ℕ) (wire_type : WireType) → 1 ≤ number → number ≤ 536870911 → kind < 8 → wire_type_of kind ≡ Some wire_type → tag_of (number * 8 + kind) ≡ Some (record { number = number; wire_type = wire_type })
tag_of-spelled number kind wire_type low high small known =
    let quotient : (number * 8 + kind) / 8 ≡ number = omega arith in
    let remainder : (number * 8 + kind) % 8 ≡ kind = omega arith in
    rw (quotient, remainder, le-leb 1 number low, le-leb number 536870911 high, known) refl

tag_at-spelled : (r : Record) (rest : List ℕ) → HasSpelling r → tag_at (varint_of (r.number * 8 + wire_number r.payload) ++ rest) ≡ Some (record { number = r.number; wire_type = kind_of r.payload }, rest)
unfolding tag_at
tag_at-spelled r rest h =
    let below = wire_number-below r.payload in
    rw (varint_at-varint_of (r.number * 8 + wire_number r.payload) rest (omega (arith, h.high)), tag_of-spelled r.number (wire_number r.payload) (kind_of r.payload) h.low h.high below (wire_type_of-wire_number r.payload)) refl

fixed_at-front : (w : Width) (front rest : List ℕ) → length front ≡ byte_len w → fixed_at w (front ++ rest) ≡ Some (from_le_bytes w front, rest)
fixed_at-front w front rest len =
    let long : ltb (length (front ++ rest)) (byte_len w) ≡ false = le-ltb _ _ (omega (arith, length-append front rest)) in
    rw (long, take_at front rest (byte_len w) len, drop_at front rest (byte_len w) len) refl

fixed64_at-spelled : (n : ℕ) (rest : List ℕ) → n < 2 ^ 64 → fixed_at w64 (to_le_bytes w64 n ++ rest) ≡ Some (n, rest)
fixed64_at-spelled n rest h = fixed_at-front w64 (to_le_bytes w64 n) rest refl ∙ ap (λ (k : ℕ). Some (k, rest)) (from_le_bytes-to_le_bytes_8 n h)

fixed32_at-spelled : (n : ℕ) (rest : List ℕ) → n < 2 ^ 32 → fixed_at w32 (to_le_bytes w32 n ++ rest) ≡ Some (n, rest)
fixed32_at-spelled n rest h = fixed_at-front w32 (to_le_bytes w32 n) rest refl ∙ ap (λ (k : ℕ). Some (k, rest)) (from_le_bytes-to_le_bytes_4 n h)

len_at-spelled : (bytes rest : List ℕ) → length bytes < 2 ^ 64 → len_at (varint_of (length bytes) ++ bytes ++ rest) ≡ Some (bytes, rest)
unfolding len_at
len_at-spelled bytes rest h =
    let regrouped : varint_of (length bytes) ++ bytes ++ rest ≡ varint_of (length bytes) ++ (bytes ++ rest) = append_assoc (varint_of (length bytes)) bytes rest in
    let long : ltb (length (bytes ++ rest)) (length bytes) ≡ false = le-ltb _ _ (omega (arith, length-append bytes rest)) in
    rw (regrouped, varint_at-varint_of (length bytes) (bytes ++ rest) h, long, take_at bytes rest (length bytes) refl, drop_at bytes rest (length bytes) refl) refl

payload_at-spelled : (p : Payload) (rest : List ℕ) → HasRange p → payload_at (kind_of p) (payload_bytes p ++ rest) ≡ Some (p, rest)
unfolding payload_at
payload_at-spelled (Varint n) rest h = rw (varint_at-varint_of n rest h) refl
payload_at-spelled (Fixed64 n) rest h = ap (λ read. read >>= λ x. Some (Fixed64 x.0, x.1)) (fixed64_at-spelled n rest h)
payload_at-spelled (Len bytes) rest h = rw (len_at-spelled bytes rest h) refl
payload_at-spelled (Fixed32 n) rest h = ap (λ read. read >>= λ x. Some (Fixed32 x.0, x.1)) (fixed32_at-spelled n rest h)

-- A record that was written is read again, whatever follows it.
pub record_at-record_bytes : (r : Record) (rest : List ℕ) → HasSpelling r → record_at (record_bytes r ++ rest) ≡ Some (r, rest)
unfolding record_at
record_at-record_bytes r rest h =
    let regrouped = append_assoc (varint_of (r.number * 8 + wire_number r.payload)) (payload_bytes r.payload) rest in
    rw (regrouped, tag_at-spelled r (payload_bytes r.payload ++ rest) h, payload_at-spelled r.payload rest h.range) refl

-- So are the records of a message.
contents-placed_from : (at : ℕ) (records : List Record) → AllByRecursion HasSpelling records → contents (placed_from at (message_of records) 0) ≡ Ok records
unfolding placed_from
contents-placed_from at [] h = refl
contents-placed_from at (r ∷ records) h =
    let rest : List ℕ = message_of records in
    let bytes : List ℕ = record_bytes r ++ rest in
    let read : record_at bytes ≡ Some (r, rest) = record_at-record_bytes r rest h.0 in
    let behind = record_at-rest bytes r rest read in
    let next : ℕ = at + (length bytes - length rest) in
    let one : placed_from at bytes 0 ≡ with_first (record { tag = at; end = next; content = r }) (placed_from next rest 0) = placed_from-record at bytes r rest read in
    ap contents one ∙ contents-with_first (record { tag = at; end = next; content = r }) (placed_from next rest 0) ∙ ap (with_first r) (contents-placed_from next records h.1)

pub fields_of-message_of : (records : List Record) → AllByRecursion HasSpelling records → fields_of (message_of records) ≡ Ok records
fields_of-message_of records h = contents-placed_from 0 records h
