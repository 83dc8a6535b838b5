-- The credit that is kept, by stream.
use Rattle.std.specs.Prelude.{◌≡◌, ℕ, ◌^◌, ◌-◌, ◌≤◌, List, nat_eq, unwrap_or, if◌then◌else◌}
use Rattle.std.specs.Map.{lookup}

-- of WINDOW_UPDATE (RFC 9113 section 6.9)
abbrev pub greatest_increment : ℕ
greatest_increment = 2 ^ 31 - 1

-- the kept credit of a stream
abbrev pub kept_on : List (ℕ × ℕ) → ℕ → ℕ
kept_on kept id = unwrap_or (lookup (nat_eq id) kept) 0

-- this is now kept of the stream, and of every other what was kept before
abbrev pub KeptOnly : (old new : List (ℕ × ℕ)) (id sum : ℕ) → Type 0
KeptOnly old new id sum = (other : ℕ) → kept_on new other ≡ (if nat_eq id other then sum else kept_on old other)

-- The same, where the sum is an increment.
abbrev pub KeepsMore : (old new : List (ℕ × ℕ)) (id sum : ℕ) → Type 0
KeepsMore old new id sum = sum ≤ greatest_increment → KeptOnly old new id sum
