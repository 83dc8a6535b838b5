-- How a list is cut into parts, from the front.
use Rattle.std.specs.Prelude.{ℕ, zero, suc, ◌-◌, List, [], ◌∷◌, take, nat_le, if◌then◌else◌}

-- how many items at the front are together within this size
unfoldable pub fitting : {A : Type 0} → (A → ℕ) → List A → ℕ → ℕ
fitting size [] room = 0
fitting size (item ∷ more) room = if nat_le (size item) room then suc (fitting size more (room - size item)) else 0

-- Parts, each as long as `next` says of the items from its first one on. The first `given` items are in an earlier part.
unfoldable pub parts_from : {A : Type 0} → (List A → ℕ) → List A → ℕ → List (List A)
parts_from next [] given = []
parts_from next (item ∷ more) zero = take (next (item ∷ more)) (item ∷ more) ∷ parts_from next more (next (item ∷ more) - 1)
parts_from next (item ∷ more) (suc given) = parts_from next more given

abbrev pub cut : {A : Type 0} → (List A → ℕ) → List A → List (List A)
cut next items = parts_from next items 0
