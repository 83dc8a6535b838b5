-- Which node of a session has which number: the roots come first, then the children of each split, the left one first.
use Rattle.std.specs.Prelude.{◌≡◌, ℕ, ◌+◌, ◌≤◌, ◌<◌, nat_lt, Option, None, Some, List, [], ◌∷◌, ◌++◌, length, map, Result, Ok, Err, if◌then◌else◌}
use Rattle.std.specs.List.{slice_index_or, slice_set, range_with_len, fold}
use Rattle.outside.specs.declared.wants.Memory.{Memory}
use Rattle.split_tree.specs.declared.node.Interval.{Interval}
use Rattle.split_tree.specs.declared.node.Node.{Node}
use Rattle.split_tree.specs.declared.node.Cut.{Cut}
use Rattle.split_tree.specs.declared.node.Cut.TheVariants as cut
use Rattle.split_tree.specs.declared.node.TheConstants.{MOST_NODES}
use Rattle.split_tree.specs.Intervals.{root, size, first_half, second_half}

-- the nodes of a session over the first `at` visible rows, in the order of their numbers, of which the first are its roots
pub record Nodes : Type 0 where
  pub at : ℕ
  pub roots : ℕ
  pub list : List Node

abbrev pub unsplit : Interval → Node
unsplit interval = record { interval = interval; children = None }

-- the node of a number
abbrev pub node_of : Nodes → ℕ → Node
node_of nodes number = slice_index_or nodes.list number (unsplit (record { from = 0; upto = 0 }))

abbrev pub interval_of : Nodes → ℕ → Interval
interval_of nodes number = (node_of nodes number).interval

abbrev pub children_of : Nodes → ℕ → Option (ℕ × ℕ)
children_of nodes number = (node_of nodes number).children

-- the nodes of a new session with k roots
abbrev pub root_nodes : (at k : ℕ) → Nodes
root_nodes at k = record { at = at; roots = k; list = map (λ i. unsplit (root at k i)) (range_with_len 0 k) }

-- A node is split: its children have the next two numbers, and each has a half of its interval.
abbrev pub with_split : Nodes → ℕ → Nodes
with_split nodes number = record nodes {
  list =
      slice_set nodes.list number (record (node_of nodes number) { children = Some (length nodes.list, length nodes.list + 1) })
      ++ unsplit (first_half (interval_of nodes number)) ∷ unsplit (second_half (interval_of nodes number)) ∷ [];
}

-- the nodes after some were split, in this order
abbrev pub with_splits : Nodes → List ℕ → Nodes
with_splits nodes numbers = fold with_split nodes numbers

-- a node of two rows or more answers its children, or gets the next two numbers for them
abbrev pub cut_open : Option (ℕ × ℕ) → (count : ℕ) → Cut
cut_open (Some (left, right)) count = cut.Already left right
cut_open None count = if nat_lt MOST_NODES (count + 2) then cut.Full count else cut.Made count (count + 1)

-- what the split of a node answers where there are so many nodes
abbrev pub cut_by : Node → (count : ℕ) → Cut
cut_by node count = if nat_lt (size node.interval) 2 then cut.Small else cut_open node.children count

abbrev pub cut_of : Nodes → ℕ → Cut
cut_of nodes number = cut_by (node_of nodes number) (length nodes.list)

-- only where children are made a tree changes
abbrev pub nodes_after : Nodes → ℕ → Cut → Nodes
nodes_after nodes number (cut.Made left right) = with_split nodes number
nodes_after nodes number (cut.Already left right) = nodes
nodes_after nodes number cut.Small = nodes
nodes_after nodes number (cut.Full count) = nodes

-- A split gives its answer. Want of memory keeps the tree.
abbrev pub Splits : Nodes → ℕ → Result Cut Memory → Nodes → Type 0
Splits old number (Ok made) new = (made ≡ cut_of old number) × (new ≡ nodes_after old number made)
Splits old number (Err memory) new = new ≡ old

-- an interval of a session's positions
pub record IsWithin (at : ℕ) (interval : Interval) : Type 0 where
  pub order : interval.from ≤ interval.upto
  pub end : interval.upto ≤ at

-- two nodes have the halves of a node of two rows or more
pub record IsHalved (nodes : Nodes) (number left right : ℕ) : Type 0 where
  pub left_there : left < length nodes.list
  pub right_there : right < length nodes.list
  pub rows : 2 ≤ size (interval_of nodes number)
  pub first : interval_of nodes left ≡ first_half (interval_of nodes number)
  pub second : interval_of nodes right ≡ second_half (interval_of nodes number)

-- The nodes of a session: the roots cut its positions, children halve their node, and there aren't too many.
pub record IsSplitTree (nodes : Nodes) : Type 0 where
  pub some : 0 < nodes.roots
  pub first : nodes.roots ≤ length nodes.list
  pub most : length nodes.list ≤ MOST_NODES
  pub cut : (number : ℕ) → number < nodes.roots → interval_of nodes number ≡ root nodes.at nodes.roots number
  pub within : (number : ℕ) → number < length nodes.list → IsWithin nodes.at (interval_of nodes number)
  pub halved : (number left right : ℕ) → children_of nodes number ≡ Some (left, right) → IsHalved nodes number left right

-- each of these nodes, in its turn, can be split
abbrev pub CanSplit : Nodes → List ℕ → Type 0
CanSplit nodes [] = Unit {0}
CanSplit nodes (number ∷ more) =
    (number < length nodes.list) × (cut_of nodes number ≡ cut.Made (length nodes.list) (length nodes.list + 1)) × CanSplit (with_split nodes number) more
