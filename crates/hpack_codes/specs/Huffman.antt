-- Huffman strings: RFC 7541, section 5.2.
use Rattle.std.specs.Prelude.{◌≡◌, ℕ, ◌+◌, ◌*◌, ◌^◌, ◌<◌, ◌≤◌, ◌&&◌, ◌==◌, nat_le, List, [], ◌∷◌, ◌++◌, replicate, slice_index, sum_by, Some, None, Result, Ok, Err, if◌then◌else◌}
use Rattle.std.specs.List.{flat_map, AllByRecursion}
use Rattle.hpack_codes.specs.Bits.{bits_of}
use Rattle.hpack_codes.specs.Lengths.{lengths}
use Rattle.hpack_codes.specs.Code.{symbol_at, code_of, eos}
use Rattle.hpack_codes.specs.declared.faults.HuffFault.{HuffFault}
use Rattle.hpack_codes.specs.declared.faults.HuffFault.TheVariants.{Memory, Eos, BadPadding}

-- these bytes are the codes of these octets, and then at most seven ones
pub record IsHuffman (bytes symbols : List ℕ) : Type 0 where
  pub octets : AllByRecursion (λ s. s < 256) symbols
  pub padding : ℕ
  pub few : padding ≤ 7
  pub coded : bits_of bytes ≡ flat_map code_of symbols ++ replicate padding 1

-- octets, or the first fault
abbrev pub Decoded : Type 0
Decoded = Result (List ℕ) HuffFault

abbrev pub with_octet : ℕ → Decoded → Decoded
with_octet s (Ok symbols) = Ok (s ∷ symbols)
with_octet s (Err fault) = Err fault

-- n bits of value v are left
abbrev pub padding_of : ℕ → ℕ → Decoded
padding_of n v = if nat_le n 7 && (v + 1 == 2 ^ n) then Ok [] else Err BadPadding

-- the octets of these bits, where n bits of value v came since the last code: as soon as these are a
-- code, its symbol comes
unfoldable pub octets_from : ℕ → ℕ → List ℕ → Decoded
octets_from n v [] = padding_of n v
octets_from n v (b ∷ bits) = elim (symbol_at (n + 1) (2 * v + b)) [
  | None ↦ octets_from (n + 1) (2 * v + b) bits
  | Some s ↦ if s == eos then Err Eos else with_octet s (octets_from 0 0 bits)
]

abbrev pub huffman_of : List ℕ → Decoded
huffman_of bytes = octets_from 0 0 (bits_of bytes)

-- the bits of the codes of octets
abbrev pub code_bits : List ℕ → ℕ
code_bits bytes = sum_by (λ s. slice_index lengths s) bytes

-- what was returned is what is read, unless memory ran out
abbrev pub Fails : HuffFault → Decoded → Type 0
Fails Memory read = Unit {0}
Fails Eos read = read ≡ Err Eos
Fails BadPadding read = read ≡ Err BadPadding

abbrev pub Gives : Decoded → Decoded → Type 0
Gives (Ok symbols) read = read ≡ Ok symbols
Gives (Err fault) read = Fails fault read
