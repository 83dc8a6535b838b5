-- A session has few nodes: its roots, and two for each split.
use Rattle.std.proofs.Common.{◌≡◌, ℕ, ◌+◌, ◌*◌, ◌<◌, ◌≤◌, ℤ, Bool, true, false, ◌==◌, List, [], ◌∷◌, ◌++◌, length, take, get_or, All, None, Some, refl, sym, ap, subst, ◌∙◌, arith}
use Rattle.std.specs.Prelude.{Option, fold, option_map, IfSome, if◌then◌else◌}
use Rattle.std.specs.List.{AllByRecursion}
use Rattle.std.proofs.lemmas.List.{length-take-le, take_more}
use Rattle.std.proofs.lemmas.List.FromFn.{length-map-range_with_len}
use Rattle.std.proofs.lemmas.List.Elements.{recursion_from_All, All-take}
use Rattle.std.proofs.lemmas.List.Sums.{fold_push}
use Rattle.column_types.specs.declared.predicate.Pred.{Pred}
use Rattle.split_tree.specs.declared.node.TheConstants.{MOST_ROOTS}
use Rattle.split_tree.specs.Intervals.{root}
use Rattle.split_tree.specs.Nodes.{unsplit}
use Rattle.split_tree.proofs.Halves.{length-split}
use Rattle.table_model.specs.declared.limits.TheConstants.{MAX_ENTRIES}
use Rattle.table_model.specs.declared.entries.Entry.{Entry}
use Rattle.table_model.specs.declared.entries.Change.{Change}
use Rattle.table_model.specs.declared.entries.Change.TheVariants as change
use Rattle.table_model.specs.History.{History}
use Rattle.table_model.specs.Sessions.{Opened, HasFewRoots, begun, split_at, opened_after, session_of}

abbrev FewNodes : Option Opened → ℕ → Type 0
FewNodes found splits = IfSome found (λ session. length session.nodes.list ≤ MOST_ROOTS + 2 * splits)

few_more : (found : Option Opened) (few many : ℕ) → few ≤ many → FewNodes found few → FewNodes found many
few_more None few many more bound = tt
few_more (Some session) few many more bound = omega (arith, more, bound)

few_begun : (moment : ℤ) (at : ℕ) (pred : Pred) (fields : List ℕ) (roots splits : ℕ) → roots ≤ MOST_ROOTS → length (begun moment at pred fields roots).nodes.list ≤ MOST_ROOTS + 2 * splits
few_begun moment at pred fields roots splits few = rw (length-map-range_with_len (λ i. unsplit (root at roots i)) 0 roots) (omega (arith, few))

few_split : (found : Option Opened) (node splits : ℕ) → FewNodes found splits → FewNodes (option_map (split_at node) found) (splits + 1)
few_split None node splits bound = tt
few_split (Some session) node splits bound = rw (length-split session.nodes node) (omega (arith, bound))

few_after : (number : ℕ) (before : Option Opened) (moment : ℤ) (c : Change) (splits : ℕ) → HasFewRoots c → FewNodes before splits
    → FewNodes (opened_after number before moment c) (splits + 1)
few_after number before moment (change.Session session at pred fields roots) splits few bound = either (session == number)
  where
    either : (b : Bool) → FewNodes (if b then Some (begun moment at pred fields roots) else before) (splits + 1)
    either true = few_begun moment at pred fields roots (splits + 1) few
    either false = few_more before splits (splits + 1) (omega arith) bound
few_after number before moment (change.Split session node left right) splits few bound = either (session == number)
  where
    either : (b : Bool) → FewNodes (if b then option_map (split_at node) before else before) (splits + 1)
    either true = few_split before node splits bound
    either false = few_more before splits (splits + 1) (omega arith) bound
few_after number before moment (change.Create stream kind) splits few bound = few_more before splits (splits + 1) (omega arith) bound
few_after number before moment (change.Append on offset rows bytes) splits few bound = few_more before splits (splits + 1) (omega arith) bound
few_after number before moment (change.Flush on upto) splits few bound = few_more before splits (splits + 1) (omega arith) bound
few_after number before moment (change.Finalise on) splits few bound = few_more before splits (splits + 1) (omega arith) bound
few_after number before moment (change.Commit streams) splits few bound = few_more before splits (splits + 1) (omega arith) bound

few_behind : (number : ℕ) (history : History) (before : Option Opened) (splits : ℕ) → AllByRecursion (λ entry. HasFewRoots entry.change) history → FewNodes before splits
    → FewNodes (fold (λ found entry. opened_after number found entry.moment entry.change) before history) (splits + length history)
few_behind number [] before splits each bound = few_more before splits (splits + 0) (omega arith) bound
few_behind number (entry ∷ more) before splits each bound =
    let last = fold (λ found e. opened_after number found e.moment e.change) before (entry ∷ more) in
    few_more last (splits + 1 + length more) (splits + length (entry ∷ more)) (omega arith)
    (few_behind number more (opened_after number before entry.moment entry.change) (splits + 1) each.1 (few_after number before entry.moment entry.change splits each.0 bound))

few_nodes : (history : History) (number : ℕ) → All (λ entry. HasFewRoots entry.change) history → FewNodes (session_of history number) (length history)
unfolding session_of
few_nodes history number each =
    few_more (session_of history number) (0 + length history) (length history) (omega arith)
    (few_behind number history None 0 (recursion_from_All (λ entry. HasFewRoots entry.change) history each) tt)

room : (found : Option Opened) (splits : ℕ) → splits ≤ MAX_ENTRIES → FewNodes found splits → IfSome found (λ session. length session.nodes.list + 2 < 4294967296)
room None splits few bound = tt
room (Some session) splits few bound = omega (arith, few, bound)

-- a split's children have numbers below 2^32
pub room_at : (history : History) (number i : ℕ) (found : Option Opened) → length history ≤ MAX_ENTRIES → All (λ entry. HasFewRoots entry.change) history → i ≤ length history
    → found ≡ session_of (take i history) number → IfSome found (λ session. length session.nodes.list + 2 < 4294967296)
room_at history number i found few each within is =
    let count = length-take-le i history within in
    rw is (room (session_of (take i history) number) (length (take i history)) (omega (arith, few, within, count))
    (few_nodes (take i history) number (All-take (λ entry. HasFewRoots entry.change) i history each)))

-- the session behind one entry more
pub session_of-more : (history : History) (number i : ℕ) (entry : Entry) → i < length history → entry ≡ get_or history i entry
    → opened_after number (session_of (take i history) number) entry.moment entry.change ≡ session_of (take (i + 1) history) number
unfolding session_of
session_of-more history number i entry within is =
    sym (ap (λ h. session_of h number) (take_more history i entry within ∙ ap (λ e. take i history ++ e ∷ []) (sym is))
    ∙ fold_push (λ found e. opened_after number found e.moment e.change) None (take i history) entry)

pub session_of-none : (number : ℕ) → None ≡ session_of [] number
unfolding session_of
session_of-none number = refl

-- all numbers of nodes are below 2^32 in the end
pub room_behind : (history : History) (number i : ℕ) (found : Option Opened) (session : Opened) → length history ≤ MAX_ENTRIES → All (λ entry. HasFewRoots entry.change) history
    → i ≤ length history → found ≡ session_of (take i history) number → found ≡ Some session → length session.nodes.list < 4294967296
room_behind history number i found session few each within is some =
    below session (subst (λ f. IfSome f (λ s. length s.nodes.list + 2 < 4294967296)) some (room_at history number i found few each within is))
  where
    below : (session : Opened) → length session.nodes.list + 2 < 4294967296 → length session.nodes.list < 4294967296
    below session roomy = omega (arith, roomy)
