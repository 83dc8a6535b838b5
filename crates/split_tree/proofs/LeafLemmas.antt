-- What is left to open of a cut, and what stands behind it.
use Rattle.std.proofs.Common.{◌≡◌, ℕ, suc, ◌+◌, ◌-◌, ◌*◌, ◌/◌, ◌≤◌, ◌<◌, List, [], ◌∷◌, ◌++◌, length, reverse, Some, None, true, false, refl, sym, ◌∙◌, ap, subst, arith, append_assoc, append-nil, get_or, sum_by}
use Rattle.std.proofs.lemmas.List.{reverse-append}
use Rattle.std.proofs.lemmas.List.Sums.{sum_by_push}
use Rattle.std.specs.List.{AllByRecursion, range_with_len}
use Rattle.split_tree.specs.declared.node.Node.{Node}
use Rattle.split_tree.specs.Intervals.{size, first_half}
use Rattle.split_tree.specs.Nodes.{Nodes, interval_of, children_of, IsHalved, IsSplitTree}
use Rattle.split_tree.specs.Cuts.{IsCut, whole, opened, AreLeaves}
use Rattle.split_tree.proofs.Halves.{node_at}
use Rattle.split_tree.proofs.CutLemmas.{cut_follows}

-- how many nodes the tree under an interval has at most
abbrev pub weight : Nodes → ℕ → ℕ
weight nodes number = (2 * size (interval_of nodes number) - 1) + (1 - size (interval_of nodes number))

some_weight : (n : ℕ) → 0 < (2 * n - 1) + (1 - n)
some_weight n = omega arith

pub weight-some : (nodes : Nodes) (number : ℕ) → 0 < weight nodes number
weight-some nodes number = some_weight (size (interval_of nodes number))

lighter : (a b : ℕ) → 2 ≤ b - a
    → ((2 * ((a + b) / 2 - a) - 1) + (1 - ((a + b) / 2 - a))) + ((2 * (b - (a + b) / 2) - 1) + (1 - (b - (a + b) / 2))) < (2 * (b - a) - 1) + (1 - (b - a))
lighter a b rows = omega arith

pub weight-halved : (nodes : Nodes) (number left right : ℕ) → IsHalved nodes number left right → weight nodes left + weight nodes right < weight nodes number
weight-halved nodes number left right halved =
    subst (λ i. ((2 * size i - 1) + (1 - size i)) + weight nodes right < weight nodes number) (sym halved.first)
    (subst (λ i. ((2 * size (first_half (interval_of nodes number)) - 1) + (1 - size (first_half (interval_of nodes number)))) + ((2 * size i - 1) + (1 - size i)) < weight nodes number) (sym halved.second)
    (lighter (interval_of nodes number).from (interval_of nodes number).upto halved.rows))

-- one node less is open
pub weighs-pop : (nodes : Nodes) (old new : List ℕ) (number : ℕ) → old ≡ new ++ number ∷ [] → sum_by (weight nodes) new + weight nodes number ≡ sum_by (weight nodes) old
weighs-pop nodes old new number taken = sym (ap (sum_by (weight nodes)) taken ∙ sum_by_push (weight nodes) new number)

pub weighs-push : (nodes : Nodes) (old new : List ℕ) (number : ℕ) → new ≡ old ++ number ∷ [] → sum_by (weight nodes) new ≡ sum_by (weight nodes) old + weight nodes number
weighs-push nodes old new number put = ap (sum_by (weight nodes)) put ∙ sum_by_push (weight nodes) old number

-- The cut, once its last open node is taken off.
pub cut-pop : (nodes : Nodes) (old new behind : List ℕ) (number : ℕ) → old ≡ new ++ number ∷ [] → IsCut nodes (old ++ reverse behind) → IsCut nodes (new ++ number ∷ reverse behind)
cut-pop nodes old new behind number taken cut =
    subst (IsCut nodes) (ap (λ xs. xs ++ reverse behind) taken ∙ append_assoc new (number ∷ []) (reverse behind)) cut

-- A node that isn't split stands behind.
pub cut-put : (nodes : Nodes) (front behind more : List ℕ) (number : ℕ) → more ≡ behind ++ number ∷ [] → IsCut nodes (front ++ number ∷ reverse behind) → IsCut nodes (front ++ reverse more)
cut-put nodes front behind more number put cut =
    subst (λ xs. IsCut nodes (front ++ xs)) (sym (ap reverse put ∙ reverse-append behind (number ∷ []))) cut

pub all-put : (nodes : Nodes) (behind more : List ℕ) (number : ℕ) → more ≡ behind ++ number ∷ [] → children_of nodes number ≡ None
    → AllByRecursion (λ n. children_of nodes n ≡ None) (reverse behind) → AllByRecursion (λ n. children_of nodes n ≡ None) (reverse more)
all-put nodes behind more number put is all =
    subst (AllByRecursion (λ n. children_of nodes n ≡ None)) (sym (ap reverse put ∙ reverse-append behind (number ∷ []))) (is, all)

-- A split node is open no more, and its children are.
pub cut-open : (nodes : Nodes) (rest one two behind : List ℕ) (number left right : ℕ) → children_of nodes number ≡ Some (left, right)
    → one ≡ rest ++ left ∷ [] → two ≡ one ++ right ∷ [] → IsCut nodes (rest ++ number ∷ reverse behind) → IsCut nodes (two ++ reverse behind)
cut-open nodes rest one two behind number left right is first second cut =
    subst (IsCut nodes) (sym (
    ap (λ xs. xs ++ reverse behind) second
    ∙ append_assoc one (right ∷ []) (reverse behind)
    ∙ ap (λ xs. xs ++ right ∷ reverse behind) first
    ∙ append_assoc rest (left ∷ []) (right ∷ reverse behind)))
    (opened rest number left right (reverse behind) is cut)

-- At first all roots are open.
pub cut-start : (nodes : Nodes) (k : ℕ) (front behind : List ℕ) → front ≡ range_with_len 0 k → k ≡ nodes.roots → behind ≡ []
    → IsCut nodes (front ++ reverse behind) × AllByRecursion (λ n. children_of nodes n ≡ None) (reverse behind)
cut-start nodes k front behind all is none = (
  subst (IsCut nodes) (sym (ap (λ xs. front ++ reverse xs) none ∙ append-nil front ∙ all ∙ ap (range_with_len 0) is)) whole,
  subst (λ xs. AllByRecursion (λ n. children_of nodes n ≡ None) (reverse xs)) (sym none) tt,
)

-- At last none is.
pub leaves-done : (nodes : Nodes) (front behind leaves : List ℕ) → IsSplitTree nodes → front ≡ [] → leaves ≡ reverse behind
    → IsCut nodes (front ++ reverse behind) → AllByRecursion (λ n. children_of nodes n ≡ None) (reverse behind) → AreLeaves nodes leaves
leaves-done nodes front behind leaves tree none is cut all =
    let whole : IsCut nodes leaves = subst (IsCut nodes) (ap (λ xs. xs ++ reverse behind) none ∙ sym is) cut in
    record {
      cut = whole;
      unsplit = subst (AllByRecursion (λ n. children_of nodes n ≡ None)) (sym is) all;
      follow = cut_follows nodes leaves tree whole;
    }

-- The children of a node that was open weigh less.
pub weighs-less : (nodes : Nodes) (old rest one two : List ℕ) (number left right : ℕ) → IsSplitTree nodes → children_of nodes number ≡ Some (left, right)
    → old ≡ rest ++ number ∷ [] → one ≡ rest ++ left ∷ [] → two ≡ one ++ right ∷ [] → sum_by (weight nodes) two < sum_by (weight nodes) old
weighs-less nodes old rest one two number left right tree is taken first second =
    less (sum_by (weight nodes) rest) (weight nodes left) (weight nodes right) (weight nodes number) (sum_by (weight nodes) one) (sum_by (weight nodes) two) (sum_by (weight nodes) old)
    (weight-halved nodes number left right (tree.halved number left right is))
    (weighs-push nodes rest one left first) (weighs-push nodes one two right second) (weighs-pop nodes old rest number taken)
  where
    less : (r a b n one two old : ℕ) → a + b < n → one ≡ r + a → two ≡ one + b → r + n ≡ old → two < old
    less r a b n one two old h first second taken = omega (arith, h, first, second, taken)

pub weighs-one_less : (nodes : Nodes) (old rest : List ℕ) (number : ℕ) → old ≡ rest ++ number ∷ [] → sum_by (weight nodes) rest < sum_by (weight nodes) old
weighs-one_less nodes old rest number taken =
    less (sum_by (weight nodes) rest) (weight nodes number) (sum_by (weight nodes) old) (weight-some nodes number) (weighs-pop nodes old rest number taken)
  where
    less : (r n old : ℕ) → 0 < n → r + n ≡ old → r < old
    less r n old h taken = omega (arith, h, taken)

-- the children of the node that is read
pub children_at : (nodes : Nodes) (list : List Node) (number : ℕ) (node : Node) → list ≡ nodes.list → number < length nodes.list → node ≡ get_or list number node
    → children_of nodes number ≡ node.children
children_at nodes list number node same there is =
    ap (λ n. n.children) (node_at nodes number node there (is ∙ ap (λ xs. get_or xs number node) same))

-- nothing was there to take off
pub nothing_left : (n : ℕ) (front : List ℕ) → n ≡ length front → (0 < n → false ≡ true) → front ≡ []
nothing_left n [] count none = refl
nothing_left n (number ∷ front) count none = let e : false ≡ true = none (some n (length front) count) in absurd (cc)
  where
    some : (n m : ℕ) → n ≡ suc m → 0 < n
    some n m count = omega (arith, count)
