-- Varints: "Base 128 Varints" of the Protocol Buffers encoding. Each byte holds seven bits of the number,
-- the lowest first, and every byte but the last has 128 added to them.
use Rattle.std.specs.Prelude.{ℕ, zero, suc, ◌+◌, ◌*◌, ◌/◌, ◌%◌, ◌^◌, List, [], ◌∷◌, Option, Some, None, nat_lt, if◌then◌else◌}
use Rattle.proto_fields.specs.Chain.{◌>>=◌}

-- The number at the front, which may have this many bytes at most, and the bytes behind it.
unfoldable pub number_at : ℕ → List ℕ → Option (ℕ × List ℕ)
number_at zero bytes = None
number_at (suc most) [] = None
number_at (suc most) (b ∷ bytes) = if nat_lt b 128 then Some (b, bytes) else (number_at most bytes >>= λ high. Some (b % 128 + 128 * high.0, high.1))

-- Of its bits, those above the 64th are dropped.
abbrev pub low_number_at : ℕ → List ℕ → Option (ℕ × List ℕ)
low_number_at most bytes = number_at most bytes >>= λ n. Some (n.0 % 2 ^ 64, n.1)

-- A varint has ten bytes at most.
unfoldable pub varint_at : List ℕ → Option (ℕ × List ℕ)
varint_at bytes = low_number_at 10 bytes

-- The shortest spelling of a number, of this many bytes at most.
unfoldable pub number_of : ℕ → ℕ → List ℕ
number_of zero n = []
number_of (suc most) n = if nat_lt n 128 then n ∷ [] else (128 + n % 128) ∷ number_of most (n / 128)

-- Ten bytes are enough for any number below 2 ^ 64.
unfoldable pub varint_of : ℕ → List ℕ
varint_of n = number_of 10 n
