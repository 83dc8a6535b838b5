-- The cut to which moves lead is a cut of the session, and stays the same while other nodes are split.
use Rattle.std.proofs.Common.{◌≡◌, ℕ, zero, suc, ◌<◌, nat_lt, Bool, true, false, List, [], ◌∷◌, ◌++◌, append_assoc, length, Option, Some, None, refl, sym, ap, ◌∙◌, subst, if◌then◌else◌}
use Rattle.std.specs.Prelude.{◌%◌, option_map, option_and_then}
use Rattle.std.specs.List.{AllByRecursion, range_with_len, fold}
use Rattle.std.proofs.lemmas.List.Sums.{fold_push}
use Rattle.std.proofs.lemmas.List.Folds.{fold_stays}
use Rattle.std.proofs.lemmas.Option.{same_Some}
use Rattle.split_tree.specs.declared.node.Interval.{Interval}
use Rattle.split_tree.specs.Intervals.{size}
use Rattle.split_tree.specs.Nodes.{Nodes, interval_of, children_of, IsSplitTree}
use Rattle.split_tree.specs.Cuts.{IsCut, whole, opened}
use Rattle.split_tree.proofs.CutLemmas.{in_cut_there}
use Rattle.drill.specs.declared.moves.Move.{Move}
use Rattle.drill.specs.declared.moves.Move.TheVariants as move
use Rattle.drill.specs.Moves.{halves_of, halved_at, cut_behind, cut_in}

-- ---- one move more

abbrev pub then_by : Nodes → Option (List ℕ) → Move → Option (List ℕ)
then_by nodes cut step = option_and_then (cut_behind nodes step) cut

pub cut_in-push : (nodes : Nodes) (moves : List Move) (step : Move) → cut_in nodes (moves ++ step ∷ []) ≡ option_and_then (cut_behind nodes step) (cut_in nodes moves)
cut_in-push nodes moves step = fold_push (then_by nodes) (Some (range_with_len 0 nodes.roots)) moves step

-- no cut comes of none
none_stays : (nodes : Nodes) (moves : List Move) → fold (then_by nodes) None moves ≡ None
none_stays nodes moves = fold_stays (then_by nodes) None (λ step. refl) moves

-- ---- what is left is a cut

-- the halves by the test of the size and by the children
abbrev pub halves_by : ℕ → Bool → Option (ℕ × ℕ) → Option (List ℕ)
halves_by number small children = if small then Some (number ∷ []) else option_map (λ both. both.0 ∷ both.1 ∷ []) children

-- either way the node in its place leaves a cut
halves_cut : (nodes : Nodes) (before : List ℕ) (number : ℕ) (more next : List ℕ) → IsCut nodes (before ++ number ∷ more)
    → option_map (λ halves. halves ++ more) (halves_of nodes number) ≡ Some next → IsCut nodes (before ++ next)
halves_cut nodes before number more next is e = either (nat_lt (size (interval_of nodes number)) 2) (children_of nodes number) refl e
  where
    either : (small : Bool) (children : Option (ℕ × ℕ)) → children_of nodes number ≡ children
        → option_map (λ halves. halves ++ more) (halves_by number small children) ≡ Some next → IsCut nodes (before ++ next)
    either true children are e = let same : number ∷ more ≡ next = same_Some _ _ e in subst (λ cut. IsCut nodes (before ++ cut)) same is
    either false None are e = absurd (cc)
    either false (Some two) are e =
        let same : two.0 ∷ two.1 ∷ more ≡ next = same_Some _ _ e in
        subst (λ cut. IsCut nodes (before ++ cut)) same (opened before number two.0 two.1 more are is)

halved_cut : (nodes : Nodes) (before cut : List ℕ) (place : ℕ) (next : List ℕ) → IsCut nodes (before ++ cut) → halved_at nodes cut place ≡ Some next → IsCut nodes (before ++ next)
halved_cut nodes before [] place next is e = let same : [] ≡ next = same_Some _ _ e in subst (λ cut. IsCut nodes (before ++ cut)) same is
halved_cut nodes before (number ∷ more) zero next is e = halves_cut nodes before number more next is e
halved_cut nodes before (number ∷ more) (suc place) next is e =
    either (λ rest are. halved_cut nodes (before ++ number ∷ []) more place rest (subst (IsCut nodes) (sym (append_assoc before (number ∷ []) more)) is) are)
    (halved_at nodes more place) refl e
  where
    either : ((rest : List ℕ) → halved_at nodes more place ≡ Some rest → IsCut nodes ((before ++ number ∷ []) ++ rest)) → (rest : Option (List ℕ)) → halved_at nodes more place ≡ rest
        → option_map (λ cut. number ∷ cut) rest ≡ Some next → IsCut nodes (before ++ next)
    either further None are e = absurd (cc)
    either further (Some rest) are e =
        let same : number ∷ rest ≡ next = same_Some _ _ e in
        subst (λ cut. IsCut nodes (before ++ cut)) same (subst (IsCut nodes) (append_assoc before (number ∷ []) rest) (further rest are))

behind_cut : (nodes : Nodes) (step : Move) (cut next : List ℕ) → IsCut nodes cut → cut_behind nodes step cut ≡ Some next → IsCut nodes next
behind_cut nodes (move.Read place count) cut next is e = subst (IsCut nodes) (same_Some _ _ e) is
behind_cut nodes (move.Split place) cut next is e = halved_cut nodes [] cut (place % length cut) next is e

fold_cut : (nodes : Nodes) (moves : List Move) (start cut : List ℕ) → IsCut nodes start → fold (then_by nodes) (Some start) moves ≡ Some cut → IsCut nodes cut
fold_cut nodes [] start cut is e = subst (IsCut nodes) (same_Some _ _ e) is
fold_cut nodes (step ∷ moves) start cut is e =
    either (λ next are e. fold_cut nodes moves next cut (behind_cut nodes step start next is are) e) (cut_behind nodes step start) refl e
  where
    either : ((next : List ℕ) → cut_behind nodes step start ≡ Some next → fold (then_by nodes) (Some next) moves ≡ Some cut → IsCut nodes cut)
        → (next : Option (List ℕ)) → cut_behind nodes step start ≡ next → fold (then_by nodes) next moves ≡ Some cut → IsCut nodes cut
    either further None are e = let none = none_stays nodes moves in absurd (cc)
    either further (Some next) are e = further next are e

pub moves_cut : (nodes : Nodes) (moves : List Move) (cut : List ℕ) → cut_in nodes moves ≡ Some cut → IsCut nodes cut
moves_cut nodes moves cut e = fold_cut nodes moves (range_with_len 0 nodes.roots) cut whole e

-- each node of a cut is there
pub cut_there : (nodes : Nodes) (before cut : List ℕ) → IsSplitTree nodes → IsCut nodes (before ++ cut) → AllByRecursion (λ number. number < length nodes.list) cut
cut_there nodes before [] tree is = tt
cut_there nodes before (number ∷ more) tree is = (
  in_cut_there nodes before number more tree is,
  cut_there nodes (before ++ number ∷ []) more tree (subst (IsCut nodes) (sym (append_assoc before (number ∷ []) more)) is),
)

-- ---- later nodes

-- of the nodes that were there only children are new
pub record Grown (old new : Nodes) : Type 0 where
  pub roots : new.roots ≡ old.roots
  pub intervals : (number : ℕ) → number < length old.list → interval_of new number ≡ interval_of old number
  pub children : (number left right : ℕ) → children_of old number ≡ Some (left, right) → children_of new number ≡ Some (left, right)

halves_stay : (old new : Nodes) (number : ℕ) (halves : List ℕ) → Grown old new → number < length old.list → halves_of old number ≡ Some halves → halves_of new number ≡ Some halves
halves_stay old new number halves grown here e =
    ap (λ (interval : Interval). halves_by number (nat_lt (size interval) 2) (children_of new number)) (grown.intervals number here)
    ∙ either (nat_lt (size (interval_of old number)) 2) (children_of old number) refl e
  where
    either : (small : Bool) (children : Option (ℕ × ℕ)) → children_of old number ≡ children → halves_by number small children ≡ Some halves
        → halves_by number small (children_of new number) ≡ Some halves
    either true children are e = e
    either false None are e = absurd (cc)
    either false (Some two) are e = ap (halves_by number false) (grown.children number two.0 two.1 are) ∙ e

halved_stays : (old new : Nodes) (before cut : List ℕ) (place : ℕ) (next : List ℕ) → IsSplitTree old → Grown old new → IsCut old (before ++ cut)
    → halved_at old cut place ≡ Some next → halved_at new cut place ≡ Some next
halved_stays old new before [] place next tree grown is e = e
halved_stays old new before (number ∷ more) zero next tree grown is e = either (halves_of old number) refl e
  where
    either : (halves : Option (List ℕ)) → halves_of old number ≡ halves → option_map (λ halves. halves ++ more) halves ≡ Some next
        → option_map (λ halves. halves ++ more) (halves_of new number) ≡ Some next
    either None are e = absurd (cc)
    either (Some halves) are e =
        ap (option_map (λ halves. halves ++ more)) (halves_stay old new number halves grown (in_cut_there old before number more tree is) are) ∙ e
halved_stays old new before (number ∷ more) (suc place) next tree grown is e =
    either (λ rest are. halved_stays old new (before ++ number ∷ []) more place rest tree grown (subst (IsCut old) (sym (append_assoc before (number ∷ []) more)) is) are)
    (halved_at old more place) refl e
  where
    either : ((rest : List ℕ) → halved_at old more place ≡ Some rest → halved_at new more place ≡ Some rest) → (rest : Option (List ℕ)) → halved_at old more place ≡ rest
        → option_map (λ cut. number ∷ cut) rest ≡ Some next → option_map (λ cut. number ∷ cut) (halved_at new more place) ≡ Some next
    either further None are e = absurd (cc)
    either further (Some rest) are e = ap (option_map (λ cut. number ∷ cut)) (further rest are) ∙ e

behind_stays : (old new : Nodes) (step : Move) (cut next : List ℕ) → IsSplitTree old → Grown old new → IsCut old cut
    → cut_behind old step cut ≡ Some next → cut_behind new step cut ≡ Some next
behind_stays old new (move.Read place count) cut next tree grown is e = e
behind_stays old new (move.Split place) cut next tree grown is e = halved_stays old new [] cut (place % length cut) next tree grown is e

fold_stay : (old new : Nodes) (moves : List Move) (start cut : List ℕ) → IsSplitTree old → Grown old new → IsCut old start
    → fold (then_by old) (Some start) moves ≡ Some cut → fold (then_by new) (Some start) moves ≡ Some cut
fold_stay old new [] start cut tree grown is e = e
fold_stay old new (step ∷ moves) start cut tree grown is e =
    either (λ next are e. fold_stay old new moves next cut tree grown (behind_cut old step start next is are) e) (cut_behind old step start) refl e
  where
    either : ((next : List ℕ) → cut_behind old step start ≡ Some next → fold (then_by old) (Some next) moves ≡ Some cut → fold (then_by new) (Some next) moves ≡ Some cut)
        → (next : Option (List ℕ)) → cut_behind old step start ≡ next → fold (then_by old) next moves ≡ Some cut
        → fold (then_by new) (cut_behind new step start) moves ≡ Some cut
    either further None are e = let none = none_stays old moves in absurd (cc)
    either further (Some next) are e =
        ap (λ at. fold (then_by new) at moves) (behind_stays old new step start next tree grown is are) ∙ further next are e

-- the cut to which moves led is the one to which they lead
pub moves_stay : (old new : Nodes) (moves : List Move) (cut : List ℕ) → IsSplitTree old → Grown old new → cut_in old moves ≡ Some cut → cut_in new moves ≡ Some cut
moves_stay old new moves cut tree grown e =
    ap (λ roots. fold (then_by new) (Some (range_with_len 0 roots)) moves) grown.roots
    ∙ fold_stay old new moves (range_with_len 0 old.roots) cut tree grown whole e
