-- The roots of a session of a closed table are read one after another.
use Rattle.std.proofs.Common.{◌≡◌, ℕ, zero, suc, ◌+◌, ◌<◌, ◌≤◌, List, [], ◌∷◌, ◌++◌, length, Option, None, Some, refl, sym, ap, ◌∙◌, subst, arith}
use Rattle.std.specs.Prelude.{IfSome}
use Rattle.std.specs.List.{flat_map, range_with_len}
use Rattle.std.proofs.lemmas.List.Concat.{flat_map-append, flat_map-cons}
use Rattle.std.proofs.lemmas.List.{append-nil}
use Rattle.column_types.specs.declared.column.Column.{Column}
use Rattle.column_types.specs.declared.row.Row.{Row}
use Rattle.table_model.specs.History.{History}
use Rattle.table_model.specs.Legal.{IsLegal}
use Rattle.table_model.specs.Sessions.{Opened, session_of, read_node_of}
use Rattle.table_engine.specs.declared.looks.Held.{Held}
use Rattle.table_engine.specs.Looks.{Holds, Looks}
use Rattle.drill.specs.Drains.{node_rows, session_rows}
use Rattle.drill.specs.Reads.{rows_behind}
use Rattle.drill.specs.Roots.{HasRead, roots_in}
use Rattle.drill.proofs.LastLemmas.{roots_join}
use Rattle.drill.proofs.LookLemmas.{lease_rows, not_none}
use Rattle.drill.proofs.SessionLemmas.{tree_of}

-- where a session has no first node there is no such session
pub no_roots : (columns : List Column) (history : History) (number : ℕ) → IsLegal columns history → read_node_of history number 0 ≡ None → 0 ≡ roots_in (session_of history number)
no_roots columns history number legal none = by (session_of history number) refl
  where
    by : (found : Option Opened) → session_of history number ≡ found → 0 ≡ roots_in found
    by None is = refl
    by (Some session) is =
        let tree = tree_of columns history number session legal is in
        absurd (not_none history number 0 session is (omega (arith, tree.some, tree.first)) none)

range_more : (a n : ℕ) → range_with_len a (n + 1) ≡ range_with_len a n ++ (a + n) ∷ []
range_more a zero = let same : a ≡ a + 0 = omega arith in ap (λ k. k ∷ []) same
range_more a (suc n) =
    let more : suc n + 1 ≡ suc (n + 1) = omega arith in
    let same : a + 1 + n ≡ a + suc n = omega arith in
    ap (range_with_len a) more ∙ ap (λ t. a ∷ t) (range_more (a + 1) n ∙ ap (λ k. range_with_len (a + 1) n ++ k ∷ []) same)

roots_more : {A : Type 0} (f : ℕ → List A) (n : ℕ) → flat_map f (range_with_len 0 (n + 1)) ≡ flat_map f (range_with_len 0 n) ++ f n
roots_more f n =
    let same : 0 + n ≡ n = omega arith in
    ap (flat_map f) (range_more 0 n ∙ ap (λ k. range_with_len 0 n ++ k ∷ []) same) ∙ flat_map-append f (range_with_len 0 n) (n ∷ [])
    ∙ ap (λ t. flat_map f (range_with_len 0 n) ++ t) (flat_map-cons f n [] ∙ append-nil (f n))

-- one more was read
pub one_read : (columns : List Column) (history : History) (number node : ℕ) (held : Held) (rows next : List Row)
    → Holds columns history (record { session = number; node = node }) held → next ≡ rows ++ rows_behind held.lease 0 → node < roots_in (session_of history number)
    → HasRead history number node rows → HasRead history number (node + 1) next
one_read columns history number node held rows next holds is more read =
    let session = holds.session in
    let before = subst (λ o. IfSome o (λ opened. (node ≤ opened.nodes.roots) × (rows ≡ flat_map (node_rows opened history) (range_with_len 0 node)))) holds.opened read in
    let below : node < session.nodes.roots = subst (λ o. node < roots_in o) holds.opened more in
    let here : next ≡ flat_map (node_rows session history) (range_with_len 0 (node + 1)) =
    is ∙ ap (λ t. rows ++ t) (lease_rows columns history (record { session = number; node = node }) held holds)
    ∙ ap (λ t. t ++ node_rows session history node) before.1 ∙ sym (roots_more (node_rows session history) node) in
    subst (λ o. IfSome o (λ opened. (node + 1 ≤ opened.nodes.roots) × (next ≡ flat_map (node_rows opened history) (range_with_len 0 (node + 1))))) (sym holds.opened)
    (omega (arith, below), here)

-- the same of the rows of a lease behind none
pub one_read_from : (columns : List Column) (history : History) (number node : ℕ) (held : Held) (rows first next : List Row)
    → Looks columns history (record { session = number; node = node }) (Some held) → first ≡ [] → next ≡ rows ++ (first ++ rows_behind held.lease (length first))
    → node < roots_in (session_of history number) → HasRead history number node rows → HasRead history number (node + 1) next
one_read_from columns history number node held rows first next holds none is more read =
    one_read columns history number node held rows next holds (is ∙ ap (λ (f : List Row). rows ++ (f ++ rows_behind held.lease (length f))) none) more read

-- a root of a session is there
pub root_there : (columns : List Column) (history : History) (number node : ℕ) → IsLegal columns history → node < roots_in (session_of history number)
    → read_node_of history number node ≡ None → ⊥
root_there columns history number node legal more none = by (session_of history number) refl more
  where
    by : (found : Option Opened) → session_of history number ≡ found → node < roots_in found → ⊥
    by None is more = absurd (omega (arith, more))
    by (Some session) is more =
        let tree = tree_of columns history number session legal is in
        not_none history number node session is (omega (arith, tree.first, more)) none

-- all of them
pub all_read : (columns : List Column) (history : History) (number node : ℕ) (rows : List Row) → IsLegal columns history → node ≡ roots_in (session_of history number)
    → HasRead history number node rows → IfSome (session_of history number) (λ opened. rows ≡ session_rows opened history)
all_read columns history number node rows legal last read = by (session_of history number) refl last read
  where
    by : (found : Option Opened) → session_of history number ≡ found → node ≡ roots_in found
        → IfSome found (λ opened. (node ≤ opened.nodes.roots) × (rows ≡ flat_map (node_rows opened history) (range_with_len 0 node)))
        → IfSome found (λ opened. rows ≡ session_rows opened history)
    by None is last read = tt
    by (Some session) is last read =
        read.1 ∙ ap (λ n. flat_map (node_rows session history) (range_with_len 0 n)) last ∙ roots_join columns history number session legal is
