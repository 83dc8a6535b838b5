-- A count of faults: it never falls, and a fault makes it rise. At 2^64 - 1 it stands still.
use Rattle.std.specs.Prelude.{ℕ, ◌+◌, ◌-◌, ◌^◌, ◌≤◌, min}

-- the count after one fault more
abbrev pub risen : ℕ → ℕ
risen count = min (count + 1) (2 ^ 64 - 1)

-- the count rose between two moments
abbrev pub Rose : ℕ → ℕ → Type 0
Rose before now = (before ≤ now) × (risen before ≤ now)
