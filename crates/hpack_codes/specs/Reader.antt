-- What the decoder's reader of bits holds.
use Rattle.std.specs.Prelude.{◌≡◌, ℕ, ◌+◌, ◌-◌, ◌*◌, ◌/◌, ◌^◌, ◌<◌, ◌≤◌, List, [], ◌++◌, length, drop, Ok, Err}
use Rattle.hpack_codes.specs.Bits.{low_bits, bits_of}
use Rattle.hpack_codes.specs.Huffman.{Decoded, octets_from, with_octet}
use Rattle.hpack_codes.specs.declared.reader.BitReader.{BitReader}
use Rattle.hpack_codes.specs.declared.reader.Code.{Code}
use Rattle.hpack_codes.specs.declared.reader.Code.TheVariants.{Octet, Eos, Padding, BadPadding}
use Rattle.hpack_codes.specs.declared.faults.HuffFault.TheVariants as faults

-- the bits that are still to come: those kept, and those of the bytes behind them
abbrev pub left_of : BitReader → List ℕ → List ℕ
left_of r bytes = low_bits r.count r.kept ++ bits_of (drop r.at bytes)

pub record IsSound (r : BitReader) (bytes : List ℕ) : Type 0 where
  pub few : r.count ≤ 37
  pub kept : r.kept < 2 ^ r.count
  pub within : r.at ≤ length bytes

-- the thirty highest of count bits, or fewer with ones behind them
pub record IsWindow (count kept window : ℕ) : Type 0 where
  pub fits : window < 2 ^ 30
  pub many : 30 ≤ count → window ≡ kept / 2 ^ (count - 30)
  pub few : count < 30 → window + 1 ≡ (kept + 1) * 2 ^ (30 - count)

-- what the last bits are
abbrev pub IsLast : Code → Decoded → Type 0
IsLast Padding read = read ≡ Ok []
IsLast BadPadding read = read ≡ Err faults.BadPadding
IsLast (Octet s) read = ⊥
IsLast Eos read = ⊥

-- what the next code does with the octets that come
abbrev pub Reads : Code → List ℕ → List ℕ → Type 0
Reads (Octet s) old new = (octets_from 0 0 old ≡ with_octet s (octets_from 0 0 new)) × (length new < length old)
Reads Eos old new = octets_from 0 0 old ≡ Err faults.Eos
Reads Padding old new = octets_from 0 0 old ≡ Ok []
Reads BadPadding old new = octets_from 0 0 old ≡ Err faults.BadPadding
