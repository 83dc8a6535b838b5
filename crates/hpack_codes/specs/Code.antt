-- The canonical Huffman code of the lengths: RFC 7541, section 5.2 and appendix B.
use Rattle.std.specs.Prelude.{ℕ, zero, suc, ◌+◌, ◌-◌, ◌*◌, ◌==◌, nat_lt, List, [], ◌∷◌, length, take, slice_index, slice_get, Option, None, if◌then◌else◌}
use Rattle.hpack_codes.specs.Bits.{low_bits}
use Rattle.hpack_codes.specs.Lengths.{lengths}

-- the places, counted from s, at which n stands
abbrev pub places : ℕ → ℕ → List ℕ → List ℕ
places n s [] = []
places n s (x ∷ xs) = if x == n then s ∷ places n (s + 1) xs else places n (s + 1) xs

-- the symbols whose codes have n bits, in rising order
unfoldable pub symbols_of : ℕ → List ℕ
symbols_of n = places n 0 lengths

-- the value of the first code of n bits: codes are handed out by length, then by symbol, counting
-- up, and doubling at each longer length
unfoldable pub first_code : ℕ → ℕ
first_code zero = 0
first_code (suc n) = 2 * (first_code n + length (symbols_of n))

-- the symbol whose code has n bits and the value v
unfoldable pub symbol_at : ℕ → ℕ → Option ℕ
symbol_at n v = if nat_lt v (first_code n) then None else slice_get (symbols_of n) (v - first_code n)

-- the bits of a symbol's code: behind those of the lesser symbols of its length
unfoldable pub code_of : ℕ → List ℕ
code_of s = low_bits (slice_index lengths s) (first_code (slice_index lengths s) + length (places (slice_index lengths s) 0 (take s lengths)))

-- the symbol that isn't an octet
abbrev pub eos : ℕ
eos = 256
