-- Bits, as zeros and ones, the highest first.
use Rattle.std.specs.Prelude.{ℕ, zero, suc, ◌^◌, ◌/◌, ◌%◌, List, [], ◌∷◌}
use Rattle.std.specs.List.{flat_map}

-- the n low bits of a number
unfoldable pub low_bits : ℕ → ℕ → List ℕ
low_bits zero v = []
low_bits (suc n) v = (v / 2 ^ n) % 2 ∷ low_bits n v

-- the bits of bytes
abbrev pub bits_of : List ℕ → List ℕ
bits_of bytes = flat_map (low_bits 8) bytes
