-- The roots of a new session are a tree.
use Rattle.std.proofs.Common.{◌≡◌, ◌⊎◌, inl, inr, ℕ, zero, suc, ◌+◌, ◌*◌, ◌/◌, ◌≤◌, ◌<◌, min, max, ◌==◌, List, [], ◌∷◌, ◌++◌, length, map, Some, sym, ◌∙◌, ap, subst, arith, if◌then◌else◌}
use Rattle.std.proofs.lemmas.Bool.Decides.{nat_tests}
use Rattle.std.proofs.Math.Nat.{add-zero, div-mul-le_self, mul-le-mul_right, div-le_of_le-mul}
use Rattle.std.proofs.lemmas.Nat.{le-div}
use Rattle.std.proofs.lemmas.Bool.{cases_lt}
use Rattle.std.proofs.lemmas.List.FromFn.{length-map-range_with_len, get_or-map-range_with_len, map-range_with_len_more}
use Rattle.std.proofs.lemmas.List.{get_or_past}
use Rattle.std.proofs.lemmas.Option.{none-some}
use Rattle.std.specs.List.{range_with_len}
use Rattle.split_tree.specs.declared.node.Node.{Node}
use Rattle.split_tree.specs.declared.node.TheConstants.{MOST_NODES, MOST_ROOTS, ROOTS_UNASKED}
use Rattle.split_tree.specs.Intervals.{root, roots_of}
use Rattle.split_tree.specs.Nodes.{unsplit, node_of, children_of, root_nodes, IsWithin, IsSplitTree}

pub bounds_rise : (at k i : ℕ) → 0 < k → i * at / k ≤ (i + 1) * at / k
bounds_rise at k i some =
    let under : i * at / k * k ≤ i * at = div-mul-le_self (i * at) k in
    let step : i * at ≤ (i + 1) * at = mul-le-mul_right at (next i) in
    le-div (i * at / k) ((i + 1) * at) k some (omega arith)
  where
    next : (i : ℕ) → i ≤ i + 1
    next i = omega arith

bound_within : (at k i : ℕ) → i < k → (i + 1) * at / k ≤ at
bound_within at k i below = div-le_of_le-mul k (mul-le-mul_right at (next i k below))
  where
    next : (i k : ℕ) → i < k → i + 1 ≤ k
    next i k below = omega arith

root_node : (at k i : ℕ) → i < k → node_of (root_nodes at k) i ≡ unsplit (root at k i)
root_node at k i below = get_or-map-range_with_len (λ j. unsplit (root at k j)) 0 k i i (unsplit (record { from = 0; upto = 0 })) below (zero_and i)
  where
    zero_and : (i : ℕ) → 0 + i ≡ i
    zero_and i = omega arith

count-roots : (at k : ℕ) → length (root_nodes at k).list ≡ k
count-roots at k = length-map-range_with_len (λ j. unsplit (root at k j)) 0 k

childless : (at k number left right : ℕ) → (number < k) ⊎ (k ≤ number) → children_of (root_nodes at k) number ≡ Some (left, right) → ⊥
childless at k number left right (inl below) is = none-some (left, right) (sym (ap (λ n. n.children) (root_node at k number below)) ∙ is)
childless at k number left right (inr past) is =
    none-some (left, right) (sym (ap (λ n. n.children) (get_or_past (root_nodes at k).list number (unsplit (record { from = 0; upto = 0 })) (rw (count-roots at k) past))) ∙ is)

pub IsSplitTree-roots : (at k : ℕ) → 0 < k → k ≤ MOST_NODES → IsSplitTree (root_nodes at k)
IsSplitTree-roots at k some most = record {
  some = some;
  first = rw (count-roots at k) (omega arith);
  most = rw (count-roots at k) most;
  cut = λ i below. ap (λ n. n.interval) (root_node at k i below);
  within = λ i there.
      let below : i < k = rw (sym (count-roots at k)) there in
      subst (IsWithin at) (sym (ap (λ n. n.interval) (root_node at k i below))) (record { order = bounds_rise at k i some; end = bound_within at k i below });
  halved = λ number left right is. absurd (childless at k number left right (cases_lt number k) is);
}

pub some_roots : (at count : ℕ) → 0 < roots_of at count
some_roots at count = grind arith

pub few_roots : (at count : ℕ) → roots_of at count ≤ MOST_NODES
few_roots at count = grind arith

-- roots asked for in their own number
pub roots_again : (at count : ℕ) → roots_of at (roots_of at count) ≡ roots_of at count
roots_again at count = asked at (if count == 0 then ROOTS_UNASKED else count)
  where
    asked : (at n : ℕ) → roots_of at (max 1 (min at (min MOST_ROOTS n))) ≡ max 1 (min at (min MOST_ROOTS n))
    asked at n = grind (arith, nat_tests)

abbrev roots_upto : (at k i : ℕ) → List Node
roots_upto at k i = map (λ j. unsplit (root at k j)) (range_with_len 0 i)

-- one root more
pub roots-push : (at k i : ℕ) (old new : List Node) (node : Node) (from upto : ℕ) → old ≡ roots_upto at k i → new ≡ old ++ node ∷ []
    → node ≡ unsplit (record { from = from; upto = upto }) → from ≡ i * at / k → upto ≡ (i + 1) * at / k → new ≡ roots_upto at k (i + 1)
roots-push at k i old new node from upto before put is first last =
    put
    ∙ ap (λ xs. xs ++ node ∷ []) before
    ∙ ap (λ x. roots_upto at k i ++ x ∷ []) (is ∙ ap (λ n. unsplit (record { from = n; upto = upto })) first ∙ ap (λ n. unsplit (record { from = i * at / k; upto = n })) last)
    ∙ sym (map-range_with_len_more (λ j. unsplit (root at k j)) 0 i i (zero_and i))
  where
    zero_and : (i : ℕ) → 0 + i ≡ i
    zero_and i = omega arith

-- all roots
pub roots-made : (at k i : ℕ) (list : List Node) → list ≡ roots_upto at k i → i ≤ k → k ≤ i → list ≡ (root_nodes at k).list
roots-made at k i list made below over = let all : i ≡ k = omega arith in made ∙ ap (roots_upto at k) all

pub IsSplitTree-made : (at k : ℕ) (list : List Node) → 0 < k → k ≤ MOST_ROOTS → list ≡ (root_nodes at k).list
    → IsSplitTree (record { at = at; roots = k; list = list })
IsSplitTree-made at k list some few made =
    subst (λ xs. IsSplitTree (record { at = at; roots = k; list = xs })) (sym made) (IsSplitTree-roots at k some (most k few))
  where
    most : (k : ℕ) → k ≤ MOST_ROOTS → k ≤ MOST_NODES
    most k few = omega (arith, few)

-- one number more
pub numbers-push : (a n : ℕ) → range_with_len a (n + 1) ≡ range_with_len a n ++ (a + n) ∷ []
numbers-push a zero = ap (λ m. m ∷ []) (sym (add-zero a))
numbers-push a (suc n) =
    ap (range_with_len a) (more n) ∙ ap (λ xs. a ∷ xs) (numbers-push (a + 1) n ∙ ap (λ m. range_with_len (a + 1) n ++ m ∷ []) (later a n))
  where
    more : (n : ℕ) → suc n + 1 ≡ suc (n + 1)
    more n = omega arith

    later : (a n : ℕ) → a + 1 + n ≡ a + suc n
    later a n = omega arith
