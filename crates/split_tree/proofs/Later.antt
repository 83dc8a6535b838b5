-- Later splits and later rows change nothing of the nodes that were there.
use Rattle.std.proofs.Common.{◌≡◌, ℕ, ◌+◌, ◌-◌, ◌≤◌, ◌<◌, nat_lt, Bool, true, false, List, [], ◌∷◌, ◌++◌, length, take, drop, Option, Some, None, refl, sym, ◌∙◌, ap, subst, arith, length-drop, if◌then◌else◌}
use Rattle.std.proofs.lemmas.Bool.Decides.{nat_tests}
use Rattle.std.proofs.lemmas.List.{take-append-le, drop-append-le}
use Rattle.std.specs.List.{between, range_with_len}
use Rattle.split_tree.specs.declared.node.Node.{Node}
use Rattle.split_tree.specs.declared.node.Cut.{Cut}
use Rattle.split_tree.specs.declared.node.Cut.TheVariants as cut
use Rattle.split_tree.specs.declared.node.TheConstants.{MOST_NODES}
use Rattle.split_tree.specs.Intervals.{size}
use Rattle.split_tree.specs.Nodes.{Nodes, node_of, interval_of, children_of, with_split, with_splits, cut_by, cut_open, IsSplitTree, CanSplit}
use Rattle.split_tree.specs.Cuts.{IsCut, whole, opened}
use Rattle.split_tree.specs.Parts.{read, rows_in}
use Rattle.split_tree.specs.Laws.{Stay}
use Rattle.split_tree.proofs.Halves.{IsSplitTree-split, interval_of-split, children_of-split, length-split}

-- what a split that makes children tells of its node
pub record Open (node : Node) (count left right : ℕ) : Type 0 where
  pub rows : 2 ≤ size node.interval
  pub free : node.children ≡ None
  pub room : count + 2 ≤ MOST_NODES
  pub first : left ≡ count
  pub second : right ≡ count + 1

two_or_more : (n : ℕ) → nat_lt n 2 ≡ false → 2 ≤ n
two_or_more n e = grind (arith, nat_tests)

not_above : (n most : ℕ) → nat_lt most n ≡ false → n ≤ most
not_above n most e = grind (arith, nat_tests)

room_of : (count left right : ℕ) (full : Bool) → nat_lt MOST_NODES (count + 2) ≡ full
    → (if full then cut.Full count else cut.Made count (count + 1)) ≡ cut.Made left right → count + 2 ≤ MOST_NODES
room_of count left right true e made = absurd (cc)
room_of count left right false e made = not_above (count + 2) MOST_NODES e

-- the numbers that a split answers
abbrev left_of : Cut → ℕ
left_of (cut.Made left right) = left
left_of (cut.Already left right) = left
left_of cut.Small = 0
left_of (cut.Full count) = 0

abbrev right_of : Cut → ℕ
right_of (cut.Made left right) = right
right_of (cut.Already left right) = right
right_of cut.Small = 0
right_of (cut.Full count) = 0

numbers_of : (count left right : ℕ) (full : Bool) → (if full then cut.Full count else cut.Made count (count + 1)) ≡ cut.Made left right
    → (left ≡ count) × (right ≡ count + 1)
numbers_of count left right true made = absurd (cc)
numbers_of count left right false made = (sym (ap left_of made), sym (ap right_of made))

open_of : (node : Node) (count left right : ℕ) (small : Bool) (children : Option (ℕ × ℕ)) → nat_lt (size node.interval) 2 ≡ small → node.children ≡ children
    → (if small then cut.Small else cut_open children count) ≡ cut.Made left right → Open node count left right
open_of node count left right true children small are made = absurd (cc)
open_of node count left right false (Some two) small are made = absurd (cc)
open_of node count left right false None small are made =
    let numbers = numbers_of count left right (nat_lt MOST_NODES (count + 2)) made in
    record {
      rows = two_or_more (size node.interval) small;
      free = are;
      room = room_of count left right (nat_lt MOST_NODES (count + 2)) refl made;
      first = numbers.0;
      second = numbers.1;
    }

pub opens : (node : Node) (count left right : ℕ) → cut_by node count ≡ cut.Made left right → Open node count left right
opens node count left right made = open_of node count left right (nat_lt (size node.interval) 2) node.children refl refl made

further : (m n : ℕ) → m < n → m < n + 2
further m n here = omega arith

-- A tree stays one through splits.
pub splits_keep : (nodes : Nodes) (numbers : List ℕ) → IsSplitTree nodes → CanSplit nodes numbers → IsSplitTree (with_splits nodes numbers)
splits_keep nodes [] tree can = tree
splits_keep nodes (number ∷ more) tree can =
    let made = opens (node_of nodes number) (length nodes.list) (length nodes.list) (length nodes.list + 1) can.1 in
    splits_keep (with_split nodes number) more (IsSplitTree-split nodes number tree can.0 made.rows made.room) can.2

later_length : (nodes : Nodes) (numbers : List ℕ) (m : ℕ) → m < length nodes.list → m < length (with_splits nodes numbers).list
later_length nodes [] m here = here
later_length nodes (number ∷ more) m here = later_length (with_split nodes number) more m (rw (length-split nodes number) (further m (length nodes.list) here))

pub later_intervals : (nodes : Nodes) (numbers : List ℕ) (m : ℕ) → m < length nodes.list → interval_of (with_splits nodes numbers) m ≡ interval_of nodes m
later_intervals nodes [] m here = refl
later_intervals nodes (number ∷ more) m here =
    later_intervals (with_split nodes number) more m (rw (length-split nodes number) (further m (length nodes.list) here))
    ∙ interval_of-split nodes number m here

pub later_children : (nodes : Nodes) (numbers : List ℕ) → CanSplit nodes numbers → (m left right : ℕ) → children_of nodes m ≡ Some (left, right)
    → children_of (with_splits nodes numbers) m ≡ Some (left, right)
later_children nodes [] can m left right is = is
later_children nodes (number ∷ more) can m left right is =
    later_children (with_split nodes number) more can.2 m left right
    (children_of-split nodes number m left right (opens (node_of nodes number) (length nodes.list) (length nodes.list) (length nodes.list + 1) can.1).free is)

pub later_roots : (nodes : Nodes) (numbers : List ℕ) → ((with_splits nodes numbers).roots ≡ nodes.roots) × ((with_splits nodes numbers).at ≡ nodes.at)
later_roots nodes [] = (refl, refl)
later_roots nodes (number ∷ more) = later_roots (with_split nodes number) more

later_cuts : (nodes : Nodes) (numbers : List ℕ) → CanSplit nodes numbers → (cut : List ℕ) → IsCut nodes cut → IsCut (with_splits nodes numbers) cut
later_cuts nodes numbers can _ whole =
    subst (λ n. IsCut (with_splits nodes numbers) (range_with_len 0 n)) (later_roots nodes numbers).0 whole
later_cuts nodes numbers can _ (opened before number left right after is cut) =
    opened before number left right after (later_children nodes numbers can number left right is) (later_cuts nodes numbers can (before ++ number ∷ after) cut)

-- rows behind an interval aren't among its rows
between-append : {X : Type 0} (a b : ℕ) (rows more : List X) → a ≤ b → b ≤ length rows → between a b (rows ++ more) ≡ between a b rows
between-append a b rows more order end =
    let from : a ≤ length rows = omega arith in
    let upto : b - a ≤ length (drop a rows) = rw (length-drop a rows) (omega arith) in
    ap (take (b - a)) (drop-append-le a rows more from) ∙ take-append-le (b - a) (drop a rows) more upto

pub later_nodes_stay : {X Y : Type 0} (nodes : Nodes) (numbers : List ℕ) → IsSplitTree nodes → CanSplit nodes numbers → Stay X Y nodes (with_splits nodes numbers)
later_nodes_stay nodes numbers tree can = record {
  intervals = later_intervals nodes numbers;
  children = later_children nodes numbers can;
  cuts = later_cuts nodes numbers can;
  rows = λ number here keep shape rows more all.
      let interval = tree.within number here in
      ap (λ i. read keep shape (rows_in i (rows ++ more))) (later_intervals nodes numbers number here)
      ∙ ap (read keep shape) (between-append (interval_of nodes number).from (interval_of nodes number).upto rows more interval.order (omega (arith, interval.end)));
  session = λ keep shape rows more all.
      ap (λ n. read keep shape (take n (rows ++ more))) (later_roots nodes numbers).1 ∙ ap (read keep shape) (take-append-le nodes.at rows more all);
}

-- a split more, in its turn
pub CanSplit-append : (nodes : Nodes) (numbers more : List ℕ) → CanSplit nodes numbers → CanSplit (with_splits nodes numbers) more → CanSplit nodes (numbers ++ more)
CanSplit-append nodes [] more can later = later
CanSplit-append nodes (number ∷ numbers) more can later = (can.0, can.1, CanSplit-append (with_split nodes number) numbers more can.2 later)
