-- The nodes of a cut are there, and their intervals follow one another.
use Rattle.std.proofs.Common.{◌≡◌, ℕ, zero, suc, ◌+◌, ◌*◌, ◌/◌, ◌%◌, ◌≤◌, ◌<◌, List, [], ◌∷◌, ◌++◌, length, map, Option, Some, None, refl, sym, ◌∙◌, ap, subst, arith, append_assoc}
use Rattle.std.proofs.Math.Nat.{zero-mul, zero-div, mul-div_cancel_left}
use Rattle.std.specs.List.{AllByRecursion, range_with_len, fold}
use Rattle.split_tree.specs.Intervals.{Follow}
use Rattle.split_tree.specs.Nodes.{Nodes, interval_of, children_of, IsHalved, IsSplitTree}
use Rattle.split_tree.specs.Cuts.{IsCut, whole, opened, parts_of, opened_at, cut_after}
use Rattle.split_tree.proofs.Roots.{bounds_rise}

-- Roots: the intervals from the i-th on.
roots_follow : (nodes : Nodes) (m i : ℕ) → IsSplitTree nodes → i + m ≡ nodes.roots
    → Follow (map (interval_of nodes) (range_with_len i m)) (i * nodes.at / nodes.roots) (nodes.roots * nodes.at / nodes.roots)
roots_follow nodes zero i tree all =
    let last : i ≡ nodes.roots = omega (arith, all) in
    ap (λ n. n * nodes.at / nodes.roots) last
roots_follow nodes (suc m) i tree all =
    let below : i < nodes.roots = omega (arith, all) in
    let rest : i + 1 + m ≡ nodes.roots = omega (arith, all) in
    let is = tree.cut i below in (
      ap (λ r. r.from) is,
      subst (λ r. r.from ≤ r.upto) (sym is) (bounds_rise nodes.at nodes.roots i tree.some),
      subst (λ n. Follow (map (interval_of nodes) (range_with_len (i + 1) m)) n (nodes.roots * nodes.at / nodes.roots)) (sym (ap (λ r. r.upto) is))
          (roots_follow nodes m (i + 1) tree rest),
    )

whole_follows : (nodes : Nodes) → IsSplitTree nodes → Follow (map (interval_of nodes) (range_with_len 0 nodes.roots)) 0 nodes.at
whole_follows nodes tree =
    subst (λ n. Follow (map (interval_of nodes) (range_with_len 0 nodes.roots)) n nodes.at) start
    (subst (λ n. Follow (map (interval_of nodes) (range_with_len 0 nodes.roots)) (0 * nodes.at / nodes.roots) n) (mul-div_cancel_left nodes.at tree.some)
    (roots_follow nodes nodes.roots 0 tree (zero_and nodes.roots)))
  where
    start : 0 * nodes.at / nodes.roots ≡ 0
    start = ap (λ n. n / nodes.roots) (zero-mul nodes.at) ∙ zero-div nodes.roots

    zero_and : (n : ℕ) → 0 + n ≡ n
    zero_and n = omega arith

middle_of : (a b : ℕ) → a ≤ b → (a ≤ (a + b) / 2) × ((a + b) / 2 ≤ b)
middle_of a b order = (omega arith, omega arith)

-- Two halves follow each other where their node stood.
opened_follow : (nodes : Nodes) (before : List ℕ) (number left right : ℕ) (after : List ℕ) (from upto : ℕ) → IsHalved nodes number left right
    → Follow (map (interval_of nodes) (before ++ number ∷ after)) from upto → Follow (map (interval_of nodes) (before ++ left ∷ right ∷ after)) from upto
opened_follow nodes [] number left right after from upto halved follow =
    let half = middle_of (interval_of nodes number).from (interval_of nodes number).upto follow.1 in (
      ap (λ i. i.from) halved.first ∙ follow.0,
      subst (λ i. i.from ≤ i.upto) (sym halved.first) half.0,
      (
        ap (λ i. i.from) halved.second ∙ sym (ap (λ i. i.upto) halved.first),
        subst (λ i. i.from ≤ i.upto) (sym halved.second) half.1,
        subst (λ n. Follow (map (interval_of nodes) after) n upto) (sym (ap (λ i. i.upto) halved.second)) follow.2,
      ),
    )
opened_follow nodes (first ∷ before) number left right after from upto halved follow =
    (follow.0, follow.1, opened_follow nodes before number left right after (interval_of nodes first).upto upto halved follow.2)

pub cut_follows : (nodes : Nodes) (cut : List ℕ) → IsSplitTree nodes → IsCut nodes cut → Follow (map (interval_of nodes) cut) 0 nodes.at
cut_follows nodes _ tree whole = whole_follows nodes tree
cut_follows nodes _ tree (opened before number left right after is cut) =
    opened_follow nodes before number left right after 0 nodes.at (tree.halved number left right is) (cut_follows nodes (before ++ number ∷ after) tree cut)

-- Each node of a cut is there.

roots_there : (n m i : ℕ) → i + m ≤ n → AllByRecursion (λ number. number < n) (range_with_len i m)
roots_there n zero i fits = tt
roots_there n (suc m) i fits = (omega (arith, fits), roots_there n m (i + 1) (omega (arith, fits)))

opened_there : (n : ℕ) (before : List ℕ) (number left right : ℕ) (after : List ℕ) → left < n → right < n
    → AllByRecursion (λ number. number < n) (before ++ number ∷ after) → AllByRecursion (λ number. number < n) (before ++ left ∷ right ∷ after)
opened_there n [] number left right after first second all = (first, (second, all.1))
opened_there n (first ∷ before) number left right after one two all = (all.0, opened_there n before number left right after one two all.1)

cut_there : (nodes : Nodes) (cut : List ℕ) → IsSplitTree nodes → IsCut nodes cut → AllByRecursion (λ number. number < length nodes.list) cut
cut_there nodes _ tree whole = roots_there (length nodes.list) nodes.roots 0 (omega (arith, tree.first))
cut_there nodes _ tree (opened before number left right after is cut) =
    let halved = tree.halved number left right is in
    opened_there (length nodes.list) before number left right after halved.left_there halved.right_there (cut_there nodes (before ++ number ∷ after) tree cut)

all_at : (n : ℕ) (before : List ℕ) (number : ℕ) (after : List ℕ) → AllByRecursion (λ number. number < n) (before ++ number ∷ after) → number < n
all_at n [] number after all = all.0
all_at n (first ∷ before) number after all = all_at n before number after all.1

pub in_cut_there : (nodes : Nodes) (before : List ℕ) (number : ℕ) (after : List ℕ) → IsSplitTree nodes → IsCut nodes (before ++ number ∷ after) → number < length nodes.list
in_cut_there nodes before number after tree cut = all_at (length nodes.list) before number after (cut_there nodes (before ++ number ∷ after) tree cut)

-- A node that is replaced in its place leaves a cut.
opened_cut : (nodes : Nodes) (before cut : List ℕ) (place : ℕ) → IsCut nodes (before ++ cut) → IsCut nodes (before ++ opened_at nodes cut place)
opened_cut nodes before [] place is = is
opened_cut nodes before (number ∷ more) zero is = either (children_of nodes number) refl
  where
    either : (children : Option (ℕ × ℕ)) → children_of nodes number ≡ children → IsCut nodes (before ++ (parts_of number (children_of nodes number) ++ more))
    either None are = subst (λ parts. IsCut nodes (before ++ (parts_of number parts ++ more))) (sym are) is
    either (Some two) are = subst (λ parts. IsCut nodes (before ++ (parts_of number parts ++ more))) (sym are) (opened before number two.0 two.1 more are is)
opened_cut nodes before (number ∷ more) (suc place) is =
    subst (IsCut nodes) (append_assoc before (number ∷ []) (opened_at nodes more place))
    (opened_cut nodes (before ++ number ∷ []) more place (subst (IsCut nodes) (sym (append_assoc before (number ∷ []) more)) is))

opened_after : (nodes : Nodes) (cut places : List ℕ) → IsCut nodes cut → IsCut nodes (fold (λ cut place. opened_at nodes cut (place % length cut)) cut places)
opened_after nodes cut [] is = is
opened_after nodes cut (place ∷ places) is =
    opened_after nodes (opened_at nodes cut (place % length cut)) places (opened_cut nodes [] cut (place % length cut) is)

pub moves_are_cuts : (nodes : Nodes) (places : List ℕ) → IsCut nodes (cut_after nodes places)
moves_are_cuts nodes places = opened_after nodes (range_with_len 0 nodes.roots) places whole
