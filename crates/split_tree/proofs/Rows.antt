-- Rows worked out by hand: what the definitions say of small sessions.
use Rattle.std.proofs.Common.{◌≡◌, ℕ, Bool, nat_lt, List, [], ◌∷◌, ◌++◌, Some, map, refl, arith}
use Rattle.std.specs.List.{flat_map}
use Rattle.split_tree.specs.declared.node.Interval.{Interval}
use Rattle.split_tree.specs.declared.node.Cut.TheVariants as cut
use Rattle.split_tree.specs.Intervals.{roots_of, root}
use Rattle.split_tree.specs.Nodes.{Nodes, interval_of, children_of, root_nodes, with_split, with_splits, unsplit, cut_by, cut_of}
use Rattle.split_tree.specs.Cuts.{whole, opened, AreLeaves, cut_after}
use Rattle.split_tree.specs.Parts.{rows_of_node}

-- A table has the ids 1 to 10. A session over them asks for 2 roots, and keeps the ids above 4.
abbrev rows : List ℕ
rows = 1 ∷ 2 ∷ 3 ∷ 4 ∷ 5 ∷ 6 ∷ 7 ∷ 8 ∷ 9 ∷ 10 ∷ []

abbrev above_four : ℕ → Bool
above_four id = nat_lt 4 id

abbrev ids_of : Nodes → ℕ → List ℕ → List ℕ
ids_of nodes number all = rows_of_node above_four (λ id. id) nodes number all

abbrev from_to : (from upto : ℕ) → Interval
from_to from upto = record { from = from; upto = upto }

abbrev start : Nodes
start = root_nodes 10 (roots_of 10 2)

first_root : interval_of start 0 ≡ from_to 0 5
first_root = refl

second_root : interval_of start 1 ≡ from_to 5 10
second_root = refl

splits : cut_of start 1 ≡ cut.Made 2 3
splits = refl

-- node 1 is split
abbrev later : Nodes
later = with_split start 1

left_child : interval_of later 2 ≡ from_to 5 7
left_child = refl

right_child : interval_of later 3 ≡ from_to 7 10
right_child = refl

children : children_of later 1 ≡ Some (2, 3)
children = refl

again : cut_of later 1 ≡ cut.Already 2 3
again = refl

-- id 11 came after the session
abbrev more_rows : List ℕ
more_rows = rows ++ 11 ∷ []

first_ids : ids_of later 0 more_rows ≡ (5 ∷ [])
first_ids = refl

left_ids : ids_of later 2 more_rows ≡ (6 ∷ 7 ∷ [])
left_ids = refl

right_ids : ids_of later 3 more_rows ≡ (8 ∷ 9 ∷ 10 ∷ [])
right_ids = refl

split_ids : ids_of later 1 more_rows ≡ (6 ∷ 7 ∷ 8 ∷ 9 ∷ 10 ∷ [])
split_ids = refl

-- the cut in which node 1 was replaced; place 5 of two is place 1
replaced : cut_after later (5 ∷ []) ≡ (0 ∷ 2 ∷ 3 ∷ [])
replaced = refl

leaves : AreLeaves later (0 ∷ 2 ∷ 3 ∷ [])
leaves = record {
  cut = opened (0 ∷ []) 1 2 3 [] refl whole;
  unsplit = (refl, (refl, (refl, tt)));
  follow = (refl, omega arith, (refl, omega arith, (refl, omega arith, refl)));
}

-- a node that isn't split stays where it is
kept : cut_after later (0 ∷ 1 ∷ 4 ∷ []) ≡ (0 ∷ 2 ∷ 3 ∷ [])
kept = refl

session_ids : flat_map (λ number. ids_of later number more_rows) (cut_after later (5 ∷ [])) ≡ (5 ∷ 6 ∷ 7 ∷ 8 ∷ 9 ∷ 10 ∷ [])
session_ids = refl

-- nodes 2 and 4 of one row and of two
small : cut_of (with_split later 2) 4 ≡ cut.Small
small = refl

deeper : map (interval_of (with_splits start (1 ∷ 2 ∷ 0 ∷ []))) (0 ∷ 1 ∷ 2 ∷ 3 ∷ 4 ∷ 5 ∷ 6 ∷ 7 ∷ [])
    ≡ (from_to 0 5 ∷ from_to 5 10 ∷ from_to 5 7 ∷ from_to 7 10 ∷ from_to 5 6 ∷ from_to 6 7 ∷ from_to 0 2 ∷ from_to 2 5 ∷ [])
deeper = refl

-- 4,096 nodes at most
last_pair : cut_by (unsplit (from_to 0 2)) 4094 ≡ cut.Made 4094 4095
last_pair = refl

full : cut_by (unsplit (from_to 0 2)) 4095 ≡ cut.Full 4095
full = refl

small_before_full : cut_by (unsplit (from_to 0 1)) 4096 ≡ cut.Small
small_before_full = refl

-- a session over no row has one node, which has none and can't be split
empty : interval_of (root_nodes 0 (roots_of 0 7)) 0 ≡ from_to 0 0
empty = refl

empty_roots : roots_of 0 7 ≡ 1
empty_roots = refl

empty_cut : cut_of (root_nodes 0 1) 0 ≡ cut.Small
empty_cut = refl

-- 4 roots where none is asked for, one for each row of fewer rows, and never more than 100
unasked : roots_of 10 0 ≡ 4
unasked = refl

few_rows : roots_of 3 0 ≡ 3
few_rows = refl

many_roots : roots_of 1000 300 ≡ 100
many_roots = refl

-- ten rows in four roots
quarters : map (root 10 4) (0 ∷ 1 ∷ 2 ∷ 3 ∷ []) ≡ (from_to 0 2 ∷ from_to 2 5 ∷ from_to 5 7 ∷ from_to 7 10 ∷ [])
quarters = refl
