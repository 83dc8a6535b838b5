-- Rows in groups, and where the row at a position stands.
use Rattle.std.specs.Prelude.{◌≡◌, ℕ, ◌+◌, ◌<◌, List, [], length, take}
use Rattle.std.specs.List.{flat_map, slice_index_or}

-- all rows, group after group
abbrev pub joined : {A : Type 0} → List (List A) → List A
joined groups = flat_map (λ group. group) groups

-- the group of this number, and no row where there is none
abbrev pub group_at : {A : Type 0} → List (List A) → ℕ → List A
group_at groups number = slice_index_or groups number []

abbrev pub HasRows : {A : Type 0} → List A → Type 0
HasRows group = 0 < length group

-- The row at this position of all rows stands in this group, at this place of it.
pub record IsPlace {A : Type 0} (groups : List (List A)) (position group place : ℕ) : Type 0 where
  pub within : place < length (group_at groups group)
  pub counted : length (joined (take group groups)) + place ≡ position
