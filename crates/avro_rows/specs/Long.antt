-- A number, as the Avro specification's `int` and `long` are written: zig-zag coded, and then in groups of seven bits,
-- the lowest first, with the top bit set in each byte but the last.
use Rattle.std.specs.Prelude.{ℕ, zero, suc, ◌+◌, ◌*◌, ◌/◌, ◌%◌, ℤ, pos, negsuc, List, [], ◌∷◌, nat_lt, FitsSigned, if◌then◌else◌}
use Rattle.std.specs.Int.{w64}

-- 0, -1, 1, -2 and so on as 0, 1, 2, 3 and so on
abbrev pub zig_zag_of : ℤ → ℕ
zig_zag_of (pos n) = 2 * n
zig_zag_of (negsuc n) = 2 * n + 1

-- Groups of seven bits, each number in its least length. A number has fewer groups than it has steps here.
unfoldable pub groups_of : ℕ → ℕ → List ℕ
groups_of zero n = []
groups_of (suc steps) n = if nat_lt n 128 then n ∷ [] else (128 + n % 128) ∷ groups_of steps (n / 128)

unfoldable pub varint_of : ℕ → List ℕ
varint_of n = groups_of (suc n) n

abbrev pub long_of : ℤ → List ℕ
long_of value = varint_of (zig_zag_of value)

-- a number of 64 bits
abbrev pub IsLong : ℤ → Type 0
IsLong value = FitsSigned w64 value
