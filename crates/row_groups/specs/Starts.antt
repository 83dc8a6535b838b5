-- Things that stand one behind another, each of a size, and know where they start.
use Rattle.std.specs.Prelude.{◌≡◌, ℕ, ◌+◌, ◌<◌, ◌≤◌, List, [], ◌∷◌, length}
use Rattle.std.specs.List.{sum_by, slice_index_or}

-- The first starts here, and each other one where the one before it ends.
abbrev pub Starting : {A : Type 0} → (A → ℕ) → (A → ℕ) → ℕ → List A → Type 0
Starting start size at [] = Unit {0}
Starting start size at (first ∷ more) = (start first ≡ at) × Starting start size (at + size first) more

-- A position is in one of them.
pub record IsAmong {A : Type 0} (start size : A → ℕ) (things : List A) (position : ℕ) : Type 0 where
  pub at : ℕ
  pub starts : Starting start size at things
  pub low : at ≤ position
  pub high : position < at + sum_by size things

-- It is in the one of this number.
pub record Covers {A : Type 0} (start size : A → ℕ) (things : List A) (position number : ℕ) : Type 0 where
  pub within : number < length things
  pub begins : (other : A) → start (slice_index_or things number other) ≤ position
  pub ends : (other : A) → position < start (slice_index_or things number other) + size (slice_index_or things number other)
