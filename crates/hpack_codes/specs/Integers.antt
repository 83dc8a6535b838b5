-- Integers with a prefix of 1 to 8 bits: RFC 7541, section 5.1.
use Rattle.std.specs.Prelude.{◌≡◌, ℕ, zero, suc, ◌+◌, ◌-◌, ◌*◌, ◌/◌, ◌%◌, ◌^◌, ◌<◌, nat_lt, List, [], ◌∷◌, ◌++◌, length, Result, Ok, Err, if◌then◌else◌}
use Rattle.hpack_codes.specs.declared.faults.IntFault.{IntFault}
use Rattle.hpack_codes.specs.declared.faults.IntFault.TheVariants.{Truncated, Overflow}

-- a number, and how many octets spell it
abbrev pub Number : Type 0
Number = Result (ℕ × ℕ) IntFault

abbrev pub with_octet : ℕ → Number → Number
with_octet b (Ok x) = Ok (b % 128 + 128 * x.0, x.1 + 1)
with_octet b (Err fault) = Err fault

-- the octets after the first: each has seven bits, the lowest come first, and a set high bit says
-- that another follows; at most so many stand there
unfoldable pub groups_of : ℕ → List ℕ → Number
groups_of most [] = Err Truncated
groups_of zero (b ∷ bytes) = Err Overflow
groups_of (suc most) (b ∷ bytes) = if nat_lt b 128 then Ok (b, 1) else with_octet b (groups_of most bytes)

-- a full prefix and what follows it, up to 4,294,967,295
abbrev pub above : ℕ → Number → Number
above full (Ok x) = if nat_lt (full + x.0) (2 ^ 32) then Ok (full + x.0, x.1 + 1) else Err Overflow
above full (Err fault) = Err fault

-- the integer at the head of the bytes: its prefix where that isn't full, else with at most five
-- octets after the first
abbrev pub int_of : ℕ → List ℕ → Number
int_of prefix [] = Err Truncated
int_of prefix (b ∷ bytes) = if nat_lt (b % 2 ^ prefix) (2 ^ prefix - 1) then Ok (b % 2 ^ prefix, 1) else above (2 ^ prefix - 1) (groups_of 5 bytes)

-- a number in groups of seven bits, the lowest first; at most so many after this
unfoldable pub groups : ℕ → ℕ → List ℕ
groups zero v = v ∷ []
groups (suc more) v = if nat_lt v 128 then v ∷ [] else (128 + v % 128) ∷ groups more (v / 128)

-- the shortest spelling, below the high bits of its first octet
unfoldable pub int_spelling : ℕ → ℕ → ℕ → List ℕ
int_spelling first prefix v = if nat_lt v (2 ^ prefix - 1) then (first + v) ∷ [] else (first + (2 ^ prefix - 1)) ∷ groups 4 (v - (2 ^ prefix - 1))

-- what a reader of a place in bytes returned
abbrev pub ReadsAt : ℕ → Result (ℕ × ℕ) IntFault → Number → Type 0
ReadsAt at (Ok x) read = read ≡ Ok (x.0, x.1 - at) × (at < x.1)
ReadsAt at (Err fault) read = read ≡ Err fault

-- what the bytes spell, whatever follows them
abbrev pub IntReadsBack : ℕ → List ℕ → ℕ → Type 0
IntReadsBack prefix bytes v = (rest : List ℕ) → int_of prefix (bytes ++ rest) ≡ Ok (v, length bytes)
