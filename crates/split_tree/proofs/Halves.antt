-- What a split leaves: the nodes that were there, and two more.
use Rattle.std.proofs.Common.{◌≡◌, ◌≢◌, ◌⊎◌, inl, inr, ℕ, ◌+◌, ◌-◌, ◌/◌, ◌≤◌, ◌<◌, List, [], ◌∷◌, ◌++◌, length, Option, Some, None, sym, ◌∙◌, ap, subst, arith, get_or, get_or-set_other, get_or-set_same, length-append, append_assoc}
use Rattle.std.proofs.lemmas.List.{get_or_append_left, get_or-append-add, get_or_past, get_or_read, length-set}
use Rattle.std.proofs.lemmas.Bool.{cases_lt}
use Rattle.std.proofs.lemmas.Option.{none-some}
use Rattle.std.specs.List.{slice_set}
use Rattle.split_tree.specs.declared.node.Node.{Node}
use Rattle.split_tree.specs.declared.node.TheConstants.{MOST_NODES}
use Rattle.split_tree.specs.Intervals.{size, middle, first_half, second_half}
use Rattle.split_tree.specs.Nodes.{Nodes, unsplit, node_of, interval_of, children_of, with_split, IsWithin, IsHalved, IsSplitTree}

-- a number is another, or it isn't
two_cases : (m n : ℕ) → (m < n) ⊎ (n ≤ m) → (n < m) ⊎ (m ≤ n) → (m ≡ n) ⊎ (m ≢ n)
two_cases m n (inl below) other = inr (λ e. omega (arith, e))
two_cases m n (inr from) (inl above) = inr (λ e. omega (arith, e))
two_cases m n (inr from) (inr upto) = inl (omega arith)

pub same_or_other : (m n : ℕ) → (m ≡ n) ⊎ (m ≢ n)
same_or_other m n = two_cases m n (cases_lt m n) (cases_lt n m)

abbrev nowhere : Node
nowhere = unsplit (record { from = 0; upto = 0 })

-- the node that is split, with its children
abbrev parent : Nodes → ℕ → Node
parent nodes number = record (node_of nodes number) { children = Some (length nodes.list, length nodes.list + 1) }

abbrev halves : Nodes → ℕ → List Node
halves nodes number = unsplit (first_half (interval_of nodes number)) ∷ unsplit (second_half (interval_of nodes number)) ∷ []

kept_length : (nodes : Nodes) (number : ℕ) → length (slice_set nodes.list number (parent nodes number)) ≡ length nodes.list
kept_length nodes number = length-set nodes.list number (parent nodes number)

pub length-split : (nodes : Nodes) (number : ℕ) → length (with_split nodes number).list ≡ length nodes.list + 2
length-split nodes number =
    length-append (slice_set nodes.list number (parent nodes number)) (halves nodes number)
    ∙ ap (λ n. n + 2) (kept_length nodes number)

pub node_of-other : (nodes : Nodes) (number m : ℕ) → m < length nodes.list → m ≢ number → node_of (with_split nodes number) m ≡ node_of nodes m
node_of-other nodes number m there other =
    get_or_append_left (slice_set nodes.list number (parent nodes number)) (halves nodes number) nowhere m (rw (kept_length nodes number) there)
    ∙ get_or-set_other nodes.list number m (parent nodes number) nowhere other

pub node_of-same : (nodes : Nodes) (number : ℕ) → number < length nodes.list → node_of (with_split nodes number) number ≡ parent nodes number
node_of-same nodes number there =
    get_or_append_left (slice_set nodes.list number (parent nodes number)) (halves nodes number) nowhere number (rw (kept_length nodes number) there)
    ∙ get_or-set_same nodes.list number (parent nodes number) nowhere there

-- what stands n places behind the nodes that were there
node_of-behind : (nodes : Nodes) (number n : ℕ) → node_of (with_split nodes number) (length nodes.list + n) ≡ get_or (halves nodes number) n nowhere
node_of-behind nodes number n =
    ap (λ m. get_or (with_split nodes number).list (m + n) nowhere) (sym (kept_length nodes number))
    ∙ get_or-append-add (slice_set nodes.list number (parent nodes number)) (halves nodes number) n nowhere

pub node_of-left : (nodes : Nodes) (number : ℕ) → node_of (with_split nodes number) (length nodes.list) ≡ unsplit (first_half (interval_of nodes number))
node_of-left nodes number =
    let none : length nodes.list ≡ length nodes.list + 0 = omega arith in
    ap (node_of (with_split nodes number)) none ∙ node_of-behind nodes number 0

pub node_of-right : (nodes : Nodes) (number : ℕ) → node_of (with_split nodes number) (length nodes.list + 1) ≡ unsplit (second_half (interval_of nodes number))
node_of-right nodes number = node_of-behind nodes number 1

node_of-past : (nodes : Nodes) (number m : ℕ) → length nodes.list + 2 ≤ m → node_of (with_split nodes number) m ≡ nowhere
node_of-past nodes number m past = get_or_past (with_split nodes number).list m nowhere (rw (length-split nodes number) past)

-- no node's interval changes
stays : (nodes : Nodes) (number m : ℕ) → m < length nodes.list → (m ≡ number) ⊎ (m ≢ number) → interval_of (with_split nodes number) m ≡ interval_of nodes m
stays nodes number m there (inl same) =
    let here : number < length nodes.list = rw (sym same) there in
    ap (interval_of (with_split nodes number)) same ∙ ap (λ n. n.interval) (node_of-same nodes number here) ∙ ap (interval_of nodes) (sym same)
stays nodes number m there (inr other) = ap (λ n. n.interval) (node_of-other nodes number m there other)

pub interval_of-split : (nodes : Nodes) (number m : ℕ) → m < length nodes.list → interval_of (with_split nodes number) m ≡ interval_of nodes m
interval_of-split nodes number m there = stays nodes number m there (same_or_other m number)

-- only a node that is there has children
children_there : (nodes : Nodes) (m left right : ℕ) → children_of nodes m ≡ Some (left, right) → (m < length nodes.list) ⊎ (length nodes.list ≤ m) → m < length nodes.list
children_there nodes m left right is (inl there) = there
children_there nodes m left right is (inr past) =
    absurd (none-some (left, right) (sym (ap (λ n. n.children) (get_or_past nodes.list m nowhere past)) ∙ is))

pub split_there : (nodes : Nodes) (m left right : ℕ) → children_of nodes m ≡ Some (left, right) → m < length nodes.list
split_there nodes m left right is = children_there nodes m left right is (cases_lt m (length nodes.list))

-- the children that a node had it has
pub children_of-split : (nodes : Nodes) (number m left right : ℕ) → children_of nodes number ≡ None → children_of nodes m ≡ Some (left, right)
    → children_of (with_split nodes number) m ≡ Some (left, right)
children_of-split nodes number m left right free is = either (same_or_other m number)
  where
    either : (m ≡ number) ⊎ (m ≢ number) → children_of (with_split nodes number) m ≡ Some (left, right)
    either (inl same) = absurd (none-some (left, right) (sym free ∙ sym (ap (children_of nodes) same) ∙ is))
    either (inr other) = ap (λ n. n.children) (node_of-other nodes number m (split_there nodes m left right is) other) ∙ is

-- which node a child of is: the one that was split, or one that was split before
abbrev Split : Nodes → (number m left right : ℕ) → Type 0
Split nodes number m left right =
    ((m ≡ number) × (left ≡ length nodes.list) × (right ≡ length nodes.list + 1)) ⊎ (children_of nodes m ≡ Some (left, right))

abbrev first_of_two : Option (ℕ × ℕ) → ℕ
first_of_two (Some two) = two.0
first_of_two None = 0

abbrev second_of_two : Option (ℕ × ℕ) → ℕ
second_of_two (Some two) = two.1
second_of_two None = 0

which : (nodes : Nodes) (number m left right : ℕ) → number < length nodes.list → children_of (with_split nodes number) m ≡ Some (left, right)
    → (m ≡ number) ⊎ (m ≢ number) → (m < length nodes.list) ⊎ (length nodes.list ≤ m) → (m ≡ length nodes.list) ⊎ (m ≢ length nodes.list)
    → (m ≡ length nodes.list + 1) ⊎ (m ≢ length nodes.list + 1) → Split nodes number m left right
which nodes number m left right there is (inl same) at first second =
    let told : Some (length nodes.list, length nodes.list + 1) ≡ Some (left, right) =
    sym (ap (λ n. n.children) (node_of-same nodes number there)) ∙ ap (children_of (with_split nodes number)) (sym same) ∙ is in
    inl (same, sym (ap first_of_two told), sym (ap second_of_two told))
which nodes number m left right there is (inr other) (inl here) first second =
    inr (sym (ap (λ n. n.children) (node_of-other nodes number m here other)) ∙ is)
which nodes number m left right there is (inr other) (inr past) (inl first) second =
    absurd (none-some (left, right) (sym (ap (λ n. n.children) (node_of-left nodes number)) ∙ ap (children_of (with_split nodes number)) (sym first) ∙ is))
which nodes number m left right there is (inr other) (inr past) (inr later) (inl second) =
    absurd (none-some (left, right) (sym (ap (λ n. n.children) (node_of-right nodes number)) ∙ ap (children_of (with_split nodes number)) (sym second) ∙ is))
which nodes number m left right there is (inr other) (inr past) (inr later) (inr last) =
    let far : length nodes.list + 2 ≤ m = behind m (length nodes.list) past later last in
    absurd (none-some (left, right) (sym (ap (λ n. n.children) (node_of-past nodes number m far)) ∙ is))
  where
    behind : (m n : ℕ) → n ≤ m → m ≢ n → m ≢ n + 1 → n + 2 ≤ m
    behind m n past later last = omega (arith, later, last)

split_or_before : (nodes : Nodes) (number m left right : ℕ) → number < length nodes.list → children_of (with_split nodes number) m ≡ Some (left, right) → Split nodes number m left right
split_or_before nodes number m left right there is =
    which nodes number m left right there is (same_or_other m number) (cases_lt m (length nodes.list)) (same_or_other m (length nodes.list)) (same_or_other m (length nodes.list + 1))

middle_within : (a b at : ℕ) → a ≤ b → b ≤ at → (a ≤ (a + b) / 2) × ((a + b) / 2 ≤ b) × ((a + b) / 2 ≤ at)
middle_within a b at order end = (omega arith, omega arith, omega arith)

half_within : (nodes : Nodes) (number : ℕ) → IsSplitTree nodes → number < length nodes.list
    → IsWithin nodes.at (first_half (interval_of nodes number)) × IsWithin nodes.at (second_half (interval_of nodes number))
half_within nodes number tree there =
    let here = tree.within number there in
    let half = middle_within (interval_of nodes number).from (interval_of nodes number).upto nodes.at here.order here.end in
    (record { order = half.0; end = half.2 }, record { order = half.1; end = here.end })

within_split : (nodes : Nodes) (number m : ℕ) → IsSplitTree nodes → number < length nodes.list → m < length nodes.list + 2
    → (m < length nodes.list) ⊎ (length nodes.list ≤ m) → (m ≡ length nodes.list) ⊎ (m ≢ length nodes.list) → IsWithin nodes.at (interval_of (with_split nodes number) m)
within_split nodes number m tree there below (inl before) first =
    subst (IsWithin nodes.at) (sym (interval_of-split nodes number m before)) (tree.within m before)
within_split nodes number m tree there below (inr past) (inl first) =
    subst (IsWithin nodes.at) (sym (ap (interval_of (with_split nodes number)) first ∙ ap (λ n. n.interval) (node_of-left nodes number)))
    (half_within nodes number tree there).0
within_split nodes number m tree there below (inr past) (inr later) =
    let second : m ≡ length nodes.list + 1 = omega (arith, later) in
    subst (IsWithin nodes.at) (sym (ap (interval_of (with_split nodes number)) second ∙ ap (λ n. n.interval) (node_of-right nodes number)))
    (half_within nodes number tree there).1

halved_split : (nodes : Nodes) (number m left right : ℕ) → IsSplitTree nodes → number < length nodes.list → 2 ≤ size (interval_of nodes number)
    → Split nodes number m left right → IsHalved (with_split nodes number) m left right
halved_split nodes number m left right tree there rows (inl (same, first, second)) =
    let kept : interval_of (with_split nodes number) m ≡ interval_of nodes number = ap (interval_of (with_split nodes number)) same ∙ interval_of-split nodes number number there in
    record {
      left_there = rw (first, length-split nodes number) (omega arith);
      right_there = rw (second, length-split nodes number) (omega arith);
      rows = rw kept rows;
      first = ap (interval_of (with_split nodes number)) first ∙ ap (λ n. n.interval) (node_of-left nodes number) ∙ ap first_half (sym kept);
      second = ap (interval_of (with_split nodes number)) second ∙ ap (λ n. n.interval) (node_of-right nodes number) ∙ ap second_half (sym kept);
    }
halved_split nodes number m left right tree there rows (inr is) =
    let before = tree.halved m left right is in
    let kept : interval_of (with_split nodes number) m ≡ interval_of nodes m = interval_of-split nodes number m (split_there nodes m left right is) in
    record {
      left_there = rw (length-split nodes number) (omega (arith, before.left_there));
      right_there = rw (length-split nodes number) (omega (arith, before.right_there));
      rows = rw kept before.rows;
      first = interval_of-split nodes number left before.left_there ∙ before.first ∙ ap first_half (sym kept);
      second = interval_of-split nodes number right before.right_there ∙ before.second ∙ ap second_half (sym kept);
    }

-- A split of a node of two rows or more that isn't split keeps what holds of a tree.
pub IsSplitTree-split : (nodes : Nodes) (number : ℕ) → IsSplitTree nodes → number < length nodes.list → 2 ≤ size (interval_of nodes number)
    → length nodes.list + 2 ≤ MOST_NODES → IsSplitTree (with_split nodes number)
IsSplitTree-split nodes number tree there rows room = record {
  some = tree.some;
  first = rw (length-split nodes number) (omega (arith, tree.first));
  most = rw (length-split nodes number) room;
  cut = λ m root. interval_of-split nodes number m (omega (arith, root, tree.first)) ∙ tree.cut m root;
  within = λ m here.
      let below : m < length nodes.list + 2 = rw (sym (length-split nodes number)) here in
      within_split nodes number m tree there below (cases_lt m (length nodes.list)) (same_or_other m (length nodes.list));
  halved = λ m left right is. halved_split nodes number m left right tree there rows (split_or_before nodes number m left right there is);
}

-- the node of a number, as it is read
pub node_at : (nodes : Nodes) (number : ℕ) (node : Node) → number < length nodes.list → node ≡ get_or nodes.list number node → node_of nodes number ≡ node
node_at nodes number node there is = sym (get_or_read nodes.list number node there is nowhere)

abbrev marked : (left right : ℕ) → Node → Node
marked left right node = record { interval = node.interval; children = Some (left, right) }

abbrev written : Nodes → ℕ → Node → List Node
written nodes number node = slice_set nodes.list number (marked (length nodes.list) (length nodes.list + 1) node) ++ unsplit (first_half node.interval) ∷ unsplit (second_half node.interval) ∷ []

halfway : (a b : ℕ) → a ≤ b → a + (b - a) / 2 ≡ (a + b) / 2
halfway a b order = omega arith

-- what is written where a node is split
pub split_list : (nodes : Nodes) (number left right : ℕ) (node one two : Node) (first next last : List Node) → IsWithin nodes.at node.interval → node_of nodes number ≡ node
    → left ≡ length nodes.list → right ≡ length nodes.list + 1 → first ≡ nodes.list
    → one ≡ unsplit (record { from = node.interval.from; upto = node.interval.from + (node.interval.upto - node.interval.from) / 2 })
    → two ≡ unsplit (record { from = node.interval.from + (node.interval.upto - node.interval.from) / 2; upto = node.interval.upto })
    → next ≡ slice_set first number (marked left right node) ++ one ∷ []
    → last ≡ next ++ two ∷ []
    → last ≡ (with_split nodes number).list
split_list nodes number left right node one two first next last within is one_is two_is same half_one half_two put more =
    more
    ∙ ap (λ xs. xs ++ two ∷ []) put
    ∙ append_assoc (slice_set first number (marked left right node)) (one ∷ []) (two ∷ [])
    ∙ ap (λ n. slice_set first number (marked n right node) ++ one ∷ two ∷ []) one_is
    ∙ ap (λ n. slice_set first number (marked (length nodes.list) n node) ++ one ∷ two ∷ []) two_is
    ∙ ap (λ xs. slice_set xs number (marked (length nodes.list) (length nodes.list + 1) node) ++ one ∷ two ∷ []) same
    ∙ ap (λ x. slice_set nodes.list number (marked (length nodes.list) (length nodes.list + 1) node) ++ x ∷ two ∷ []) (half_one ∙ ap (λ m. unsplit (record { from = node.interval.from; upto = m })) half)
    ∙ ap (λ x. slice_set nodes.list number (marked (length nodes.list) (length nodes.list + 1) node) ++ unsplit (first_half node.interval) ∷ x ∷ []) (half_two ∙ ap (λ m. unsplit (record { from = m; upto = node.interval.upto })) half)
    ∙ ap (written nodes number) (sym is)
  where
    half : node.interval.from + (node.interval.upto - node.interval.from) / 2 ≡ middle node.interval
    half = halfway node.interval.from node.interval.upto within.order

-- the same of the list of nodes that a split leaves
pub kept : (nodes : Nodes) (number : ℕ) (list : List Node) → IsSplitTree nodes → number < length nodes.list → 2 ≤ size (interval_of nodes number)
    → length nodes.list + 2 ≤ MOST_NODES → list ≡ (with_split nodes number).list → IsSplitTree (record { at = nodes.at; roots = nodes.roots; list = list })
kept nodes number list tree there rows room is =
    subst (λ xs. IsSplitTree (record { at = nodes.at; roots = nodes.roots; list = xs })) (sym is) (IsSplitTree-split nodes number tree there rows room)
