-- Rows of a list, one behind another.
use Rattle.std.specs.Prelude.{ℕ, ◌+◌, ◌<◌, ◌≤◌, ◌^◌, List, length}

-- The list has this many rows from a position on, of which there is one, and no row at 2^32 or behind it.
pub record IsSlice {A : Type 0} (rows : List A) (from len : ℕ) : Type 0 where
  pub some : 0 < len
  pub within : from + len ≤ length rows
  pub small : from + len < 2 ^ 32
