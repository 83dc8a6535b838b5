-- What holds of every session's tree, of each of its cuts, and of any list of visible rows.
use Rattle.std.specs.Prelude.{◌≡◌, ℕ, ◌≤◌, ◌<◌, Bool, Some, List, ◌++◌, length, map}
use Rattle.std.specs.List.{flat_map}
use Rattle.split_tree.specs.Intervals.{Follow, roots_of}
use Rattle.split_tree.specs.Nodes.{Nodes, interval_of, children_of, root_nodes, with_splits, IsSplitTree, CanSplit}
use Rattle.split_tree.specs.Cuts.{IsCut, AreLeaves, cut_after}
use Rattle.split_tree.specs.Parts.{rows_of_node, rows_of_session}

-- A session that asks for as many roots as it has gets as many. A new session's roots are a tree, and it stays one through splits.
pub record TreesAreHalved : Type 0 where
  pub again : (at count : ℕ) → roots_of at (roots_of at count) ≡ roots_of at count
  pub roots : (at count : ℕ) → IsSplitTree (root_nodes at (roots_of at count))
  pub splits : (nodes : Nodes) (numbers : List ℕ) → IsSplitTree nodes → CanSplit nodes numbers → IsSplitTree (with_splits nodes numbers)

-- The rows of a left child, and behind them those of the right one, are the rows of the node.
abbrev pub ChildrenJoin : (X Y : Type 0) → Type 0
ChildrenJoin X Y = (nodes : Nodes) (number left right : ℕ) → IsSplitTree nodes → children_of nodes number ≡ Some (left, right)
    → (keep : X → Bool) (shape : X → Y) (rows : List X)
    → rows_of_node keep shape nodes left rows ++ rows_of_node keep shape nodes right rows ≡ rows_of_node keep shape nodes number rows

-- The rows of a cut's nodes, one node after another, are those of the session.
abbrev pub CutsJoin : (X Y : Type 0) → Type 0
CutsJoin X Y = (nodes : Nodes) (cut : List ℕ) → IsSplitTree nodes → IsCut nodes cut
    → (keep : X → Bool) (shape : X → Y) (rows : List X)
    → flat_map (λ number. rows_of_node keep shape nodes number rows) cut ≡ rows_of_session keep shape nodes rows

-- So each position of the session is in one node of a cut.
abbrev pub CutsPart : Type 0
CutsPart = (nodes : Nodes) (cut : List ℕ) → IsSplitTree nodes → IsCut nodes cut → Follow (map (interval_of nodes) cut) 0 nodes.at

-- Behind later splits and later rows, the nodes that were there have their intervals, their children and their rows.
pub record Stay (X Y : Type 0) (old new : Nodes) : Type 0 where
  pub intervals : (number : ℕ) → number < length old.list → interval_of new number ≡ interval_of old number
  pub children : (number left right : ℕ) → children_of old number ≡ Some (left, right) → children_of new number ≡ Some (left, right)
  pub cuts : (cut : List ℕ) → IsCut old cut → IsCut new cut
  pub rows : (number : ℕ) → number < length old.list → (keep : X → Bool) (shape : X → Y) (rows more : List X) → old.at ≤ length rows
      → rows_of_node keep shape new number (rows ++ more) ≡ rows_of_node keep shape old number rows
  pub session : (keep : X → Bool) (shape : X → Y) (rows more : List X) → old.at ≤ length rows
      → rows_of_session keep shape new (rows ++ more) ≡ rows_of_session keep shape old rows

abbrev pub LaterNodesStay : (X Y : Type 0) → Type 0
LaterNodesStay X Y = (nodes : Nodes) (numbers : List ℕ) → IsSplitTree nodes → CanSplit nodes numbers → Stay X Y nodes (with_splits nodes numbers)

-- What is left after nodes were replaced, place after place, is a cut.
abbrev pub MovesCut : Type 0
MovesCut = (nodes : Nodes) (places : List ℕ) → IsCut nodes (cut_after nodes places)

-- A session has one list of leaves.
abbrev pub LeavesAreOne : Type 0
LeavesAreOne = (nodes : Nodes) (one other : List ℕ) → IsSplitTree nodes → AreLeaves nodes one → AreLeaves nodes other → one ≡ other
