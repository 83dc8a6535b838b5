-- Reading from the front of bytes: what was read is a good value in its spelling, and nothing was read where no good
-- value is spelled there.
use Rattle.std.specs.Prelude.{◌≡◌, ℕ, List, ◌++◌, Option, Some, None}
use Rattle.std.specs.Borrow.{Bor}

abbrev pub Reads : {V : Type 0} → (V → Type 0) → (V → List ℕ) → List ℕ → Option (V × Bor (List ℕ)) → Type 0
Reads {V} Good spelling bytes None = (value : V) (rest : List ℕ) → Good value → bytes ≡ spelling value ++ rest → ⊥
Reads Good spelling bytes (Some found) = Good found.0 × (bytes ≡ spelling found.0 ++ found.1.now)
