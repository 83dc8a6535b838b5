-- What a call appends to a buffer that its caller has.
use Rattle.std.specs.Prelude.{◌≡◌, ℕ, List, ◌++◌, length, take}

-- Bytes are appended, of which this holds.
pub record Appended (before after : List ℕ) (IsSo : List ℕ → Type 0) : Type 0 where
  pub bytes : List ℕ
  pub joined : after ≡ before ++ bytes
  pub is : IsSo bytes

-- What was there before is there still, and something may stand behind it.
abbrev pub BeginsAs : (before after : List ℕ) → Type 0
BeginsAs before after = take (length before) after ≡ before
