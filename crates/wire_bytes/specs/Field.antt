-- What a cursor's call takes from the bytes that are left.
use Rattle.std.specs.Prelude.{◌≡◌, ℕ, ◌<◌, ◌≤◌, List, length, take, drop, Result, Ok, Err}
use Rattle.wire_bytes.specs.declared.cursor.Short.{Short}

-- The first n bytes are taken, and the result is what they are read as. Where fewer are left, nothing is taken.
abbrev pub Takes : {X : Type 0} (n : ℕ) (read : List ℕ → X) (old : List ℕ) → Result X Short → (new : List ℕ) → Type 0
Takes n read old (Ok x) new = (n ≤ length old) × (x ≡ read (take n old)) × (new ≡ drop n old)
Takes n read old (Err short) new = (length old < n) × (short.have ≡ length old) × (short.need ≡ n) × (new ≡ old)
