-- Cuts of a session: its roots, some of them replaced by their children, and some of these by theirs.
use Rattle.std.specs.Prelude.{◌≡◌, ℕ, zero, suc, ◌%◌, Option, None, Some, List, [], ◌∷◌, ◌++◌, length, map}
use Rattle.std.specs.List.{AllByRecursion, range_with_len, fold}
use Rattle.split_tree.specs.Intervals.{Follow}
use Rattle.split_tree.specs.Nodes.{Nodes, interval_of, children_of}

-- The roots are a cut, and so is a cut in which a node was replaced in its place by its two children.
pub data IsCut (nodes : Nodes) : List ℕ → Type 0 where
  whole : IsCut nodes (range_with_len 0 nodes.roots)
  opened : (before : List ℕ) (number left right : ℕ) (after : List ℕ) → children_of nodes number ≡ Some (left, right)
      → IsCut nodes (before ++ number ∷ after) → IsCut nodes (before ++ left ∷ right ∷ after)

-- The leaves are the cut whose nodes aren't split. Their intervals follow one another over the whole session.
pub record AreLeaves (nodes : Nodes) (leaves : List ℕ) : Type 0 where
  pub cut : IsCut nodes leaves
  pub unsplit : AllByRecursion (λ number. children_of nodes number ≡ None) leaves
  pub follow : Follow (map (interval_of nodes) leaves) 0 nodes.at

-- a node, or its children where it is split
abbrev pub parts_of : ℕ → Option (ℕ × ℕ) → List ℕ
parts_of number None = number ∷ []
parts_of number (Some (left, right)) = left ∷ right ∷ []

-- a cut with the node at a place replaced by its children, where it is split
abbrev pub opened_at : Nodes → List ℕ → ℕ → List ℕ
opened_at nodes [] place = []
opened_at nodes (number ∷ more) zero = parts_of number (children_of nodes number) ++ more
opened_at nodes (number ∷ more) (suc place) = number ∷ opened_at nodes more place

-- The roots, after the nodes at some places were replaced one after another. A place counts in the cut as it then is, and
-- begins again behind its end.
abbrev pub cut_after : Nodes → List ℕ → List ℕ
cut_after nodes places = fold (λ cut place. opened_at nodes cut (place % length cut)) (range_with_len 0 nodes.roots) places
