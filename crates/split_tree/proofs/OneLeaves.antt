-- A session has one list of leaves.
use Rattle.std.proofs.Common.{◌≡◌, ℕ, zero, suc, ◌+◌, ◌-◌, ◌/◌, ◌≤◌, ◌<◌, List, [], ◌∷◌, ◌++◌, length, Option, Some, None, refl, sym, ◌∙◌, ap, subst, arith, append_assoc}
use Rattle.std.proofs.lemmas.Grind.{flat_map-append}
use Rattle.std.proofs.lemmas.List.Concat.{flat_map-cons}
use Rattle.std.specs.List.{AllByRecursion, flat_map, range_with_len}
use Rattle.split_tree.specs.Intervals.{size}
use Rattle.split_tree.specs.Nodes.{Nodes, interval_of, children_of, IsHalved, IsSplitTree}
use Rattle.split_tree.specs.Cuts.{IsCut, whole, opened, AreLeaves}

-- a node, or what is made of its children where it has them
abbrev or_both : ℕ → (ℕ → List ℕ) → Option (ℕ × ℕ) → List ℕ
or_both number each None = number ∷ []
or_both number each (Some two) = each two.0 ++ each two.1

-- the nodes under a node at a depth, and those above it that aren't split
abbrev under : Nodes → (depth : ℕ) → ℕ → List ℕ
under nodes zero number = number ∷ []
under nodes (suc depth) number = or_both number (λ n. under nodes depth n) (children_of nodes number)

halves_smaller : (a b n : ℕ) → 2 ≤ b - a → b - a ≤ suc n → ((a + b) / 2 - a ≤ n) × (b - (a + b) / 2 ≤ n)
halves_smaller a b n rows fits = (omega arith, omega arith)

smaller : (nodes : Nodes) (number left right n : ℕ) → IsHalved nodes number left right → size (interval_of nodes number) ≤ suc n
    → (size (interval_of nodes left) ≤ n) × (size (interval_of nodes right) ≤ n)
smaller nodes number left right n halved fits =
    let here = interval_of nodes number in
    let less = halves_smaller here.from here.upto n halved.rows fits in
    (subst (λ i. size i ≤ n) (sym halved.first) less.0, subst (λ i. size i ≤ n) (sym halved.second) less.1)

-- a node of no row has no children
no_rows : (nodes : Nodes) (number left right : ℕ) → IsHalved nodes number left right → size (interval_of nodes number) ≤ 0 → ⊥
no_rows nodes number left right halved none = omega (arith, halved.rows, none)

-- where a depth is enough for fewer rows, one more is enough for one row more
deeper : (nodes : Nodes) (depth number : ℕ) → IsSplitTree nodes → size (interval_of nodes number) ≤ suc depth
    → ((n : ℕ) → size (interval_of nodes n) ≤ depth → under nodes (suc depth) n ≡ under nodes depth n)
    → (children : Option (ℕ × ℕ)) → children_of nodes number ≡ children → under nodes (suc (suc depth)) number ≡ under nodes (suc depth) number
deeper nodes depth number tree fits enough None are =
    ap (or_both number (λ n. under nodes (suc depth) n)) are ∙ sym (ap (or_both number (λ n. under nodes depth n)) are)
deeper nodes depth number tree fits enough (Some two) are =
    let less = smaller nodes number two.0 two.1 depth (tree.halved number two.0 two.1 are) fits in
    ap (or_both number (λ n. under nodes (suc depth) n)) are
    ∙ ap (λ xs. xs ++ under nodes (suc depth) two.1) (enough two.0 less.0)
    ∙ ap (λ xs. under nodes depth two.0 ++ xs) (enough two.1 less.1)
    ∙ sym (ap (or_both number (λ n. under nodes depth n)) are)

-- deeper than its rows nothing is under a node
deep_enough : (nodes : Nodes) (depth number : ℕ) → IsSplitTree nodes → size (interval_of nodes number) ≤ depth → under nodes (suc depth) number ≡ under nodes depth number
deep_enough nodes zero number tree fits = either (children_of nodes number) refl
  where
    either : (children : Option (ℕ × ℕ)) → children_of nodes number ≡ children → or_both number (λ n. under nodes 0 n) (children_of nodes number) ≡ (number ∷ [])
    either None are = ap (or_both number (λ n. under nodes 0 n)) are
    either (Some two) are = absurd (no_rows nodes number two.0 two.1 (tree.halved number two.0 two.1 are) fits)
deep_enough nodes (suc depth) number tree fits =
    deeper nodes depth number tree fits (λ n small. deep_enough nodes depth n tree small) (children_of nodes number) refl

-- the leaves under a node of a session
abbrev leaves_under : Nodes → ℕ → List ℕ
leaves_under nodes number = under nodes (suc nodes.at) number

size_fits : (a b at : ℕ) → b ≤ at → b - a ≤ at
size_fits a b at end = omega arith

fits : (nodes : Nodes) (number : ℕ) → IsSplitTree nodes → number < length nodes.list → size (interval_of nodes number) ≤ nodes.at
fits nodes number tree there = size_fits (interval_of nodes number).from (interval_of nodes number).upto nodes.at (tree.within number there).end

leaves_under-children : (nodes : Nodes) (number left right : ℕ) → IsSplitTree nodes → children_of nodes number ≡ Some (left, right)
    → leaves_under nodes number ≡ leaves_under nodes left ++ leaves_under nodes right
leaves_under-children nodes number left right tree are =
    let halved = tree.halved number left right are in
    ap (or_both number (λ n. under nodes nodes.at n)) are
    ∙ ap (λ xs. xs ++ under nodes nodes.at right) (sym (deep_enough nodes nodes.at left tree (fits nodes left tree halved.left_there)))
    ∙ ap (λ xs. leaves_under nodes left ++ xs) (sym (deep_enough nodes nodes.at right tree (fits nodes right tree halved.right_there)))

flat_map-opened : (nodes : Nodes) (before : List ℕ) (number left right : ℕ) (after : List ℕ) → leaves_under nodes number ≡ leaves_under nodes left ++ leaves_under nodes right
    → flat_map (leaves_under nodes) (before ++ left ∷ right ∷ after) ≡ flat_map (leaves_under nodes) (before ++ number ∷ after)
flat_map-opened nodes before number left right after is =
    flat_map-append (leaves_under nodes) before (left ∷ right ∷ after)
    ∙ ap (λ xs. flat_map (leaves_under nodes) before ++ xs) (
    flat_map-cons (leaves_under nodes) left (right ∷ after)
    ∙ ap (λ xs. leaves_under nodes left ++ xs) (flat_map-cons (leaves_under nodes) right after)
    ∙ sym (append_assoc (leaves_under nodes left) (leaves_under nodes right) (flat_map (leaves_under nodes) after))
    ∙ ap (λ xs. xs ++ flat_map (leaves_under nodes) after) (sym is)
    ∙ sym (flat_map-cons (leaves_under nodes) number after))
    ∙ sym (flat_map-append (leaves_under nodes) before (number ∷ after))

-- All cuts have the same leaves under them.
same_under : (nodes : Nodes) (cut : List ℕ) → IsSplitTree nodes → IsCut nodes cut
    → flat_map (leaves_under nodes) cut ≡ flat_map (leaves_under nodes) (range_with_len 0 nodes.roots)
same_under nodes _ tree whole = refl
same_under nodes _ tree (opened before number left right after is cut) =
    flat_map-opened nodes before number left right after (leaves_under-children nodes number left right tree is)
    ∙ same_under nodes (before ++ number ∷ after) tree cut

-- Under leaves stand only they.
themselves : (nodes : Nodes) (leaves : List ℕ) → AllByRecursion (λ number. children_of nodes number ≡ None) leaves → flat_map (leaves_under nodes) leaves ≡ leaves
themselves nodes [] all = refl
themselves nodes (number ∷ leaves) all =
    flat_map-cons (leaves_under nodes) number leaves
    ∙ ap (λ xs. xs ++ flat_map (leaves_under nodes) leaves) (ap (or_both number (λ n. under nodes nodes.at n)) all.0)
    ∙ ap (λ xs. number ∷ xs) (themselves nodes leaves all.1)

pub leaves_are_one : (nodes : Nodes) (one other : List ℕ) → IsSplitTree nodes → AreLeaves nodes one → AreLeaves nodes other → one ≡ other
leaves_are_one nodes one other tree these those =
    sym (themselves nodes one these.unsplit)
    ∙ same_under nodes one tree these.cut
    ∙ sym (same_under nodes other tree those.cut)
    ∙ themselves nodes other those.unsplit
