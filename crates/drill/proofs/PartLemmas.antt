-- The rows that were read of the nodes of a cut.
use Rattle.std.proofs.Common.{◌≡◌, ℕ, zero, suc, ◌+◌, ◌<◌, ◌≤◌, nat_lt, true, false, List, [], ◌∷◌, ◌++◌, length, map, take, drop, set, Some, refl, sym, ap, ◌∙◌, subst, arith}
use Rattle.std.specs.Prelude.{◌%◌, slice_get, option_map, option_and_then}
use Rattle.std.specs.List.{AllByRecursion, insert, remove, range_with_len}
use Rattle.std.proofs.lemmas.Bool.Decides.{nat_tests}
use Rattle.std.proofs.Math.Nat.{zero-add}
use Rattle.std.proofs.lemmas.List.{drop_at, map-append, length-map, length-set}
use Rattle.std.proofs.lemmas.Option.{same_Some}
use Rattle.column_types.specs.declared.column.Column.{Column}
use Rattle.column_types.specs.declared.row.Row.{Row}
use Rattle.column_types.specs.Fields.{projected}
use Rattle.split_tree.specs.Intervals.{size}
use Rattle.split_tree.specs.Nodes.{Nodes, interval_of, children_of}
use Rattle.split_tree.proofs.Roots.{numbers-push}
use Rattle.read_cursor.specs.Lease.{Leased, keeps}
use Rattle.table_model.specs.History.{History}
use Rattle.table_model.specs.Sessions.{Opened}
use Rattle.table_model.specs.Legal.{IsLegal}
use Rattle.table_model.proofs.SessionLemmas.{nodes_join}
use Rattle.drill.specs.declared.drain_parts.Part.{Part}
use Rattle.drill.specs.declared.moves.Move.{Move}
use Rattle.drill.specs.declared.moves.Move.TheVariants as move
use Rattle.drill.specs.Drains.{node_rows}
use Rattle.drill.specs.Moves.{halves_of, halved_at, cut_behind, cut_in}
use Rattle.drill.specs.Parts.{Stands, AreFirst, ReadsOn, Divides, has_none, node_in, rows_in}
use Rattle.drill.specs.Reads.{rows_behind}
use Rattle.drill.specs.Steps.{IsOpen, IsParent, IsSmall}
use Rattle.drill.proofs.CutLemmas.{halves_by, cut_in-push}
use Rattle.drill.proofs.SessionLemmas.{tree_of}

-- ---- what holds of each item of a list

module _ {A : Type 0} (P : A → Type 0) where
  pub all_get : (xs : List A) (i : ℕ) (x : A) → AllByRecursion P xs → slice_get xs i ≡ Some x → P x
  all_get [] i x all e = absurd (cc)
  all_get (y ∷ xs) zero x all e = subst P (same_Some _ _ e) all.0
  all_get (y ∷ xs) (suc i) x all e = all_get xs i x all.1 e

  all_set : (xs : List A) (i : ℕ) (y : A) → AllByRecursion P xs → P y → AllByRecursion P (set xs i y)
  all_set [] i y all one = tt
  all_set (x ∷ xs) zero y all one = (one, all.1)
  all_set (x ∷ xs) (suc i) y all one = (all.0, all_set xs i y all.1 one)

  all_insert : (xs : List A) (i : ℕ) (y : A) → AllByRecursion P xs → P y → AllByRecursion P (insert xs i y)
  all_insert xs zero y all one = (one, all)
  all_insert [] (suc i) y all one = (one, tt)
  all_insert (x ∷ xs) (suc i) y all one = (all.0, all_insert xs i y all.1 one)

  all_remove : (xs : List A) (i : ℕ) → AllByRecursion P xs → AllByRecursion P (remove xs i)
  all_remove [] zero all = tt
  all_remove [] (suc i) all = tt
  all_remove (x ∷ xs) zero all = all.1
  all_remove (x ∷ xs) (suc i) all = (all.0, all_remove xs i all.1)

some_inserted : {A : Type 0} (xs : List A) (i : ℕ) (y : A) → 0 < length (insert xs i y)
some_inserted xs zero y = omega arith
some_inserted [] (suc i) y = omega arith
some_inserted (x ∷ xs) (suc i) y = omega arith

-- ---- nodes

nodes_set : (parts : List Part) (i : ℕ) (old new : Part) → slice_get parts i ≡ Some old → new.node ≡ old.node → map node_in (set parts i new) ≡ map node_in parts
nodes_set [] i old new e same = refl
nodes_set (part ∷ parts) zero old new e same =
    ap (λ node. node ∷ map node_in parts) (same ∙ sym (ap node_in (same_Some _ _ e)))
nodes_set (part ∷ parts) (suc i) old new e same = ap (λ nodes. part.node ∷ nodes) (nodes_set parts i old new e same)

nodes_halved : (nodes : Nodes) (parts : List Part) (i : ℕ) (old one two : Part) → slice_get parts i ≡ Some old → halves_of nodes old.node ≡ Some (one.node ∷ two.node ∷ [])
    → halved_at nodes (map node_in parts) i ≡ Some (map node_in (insert (insert (remove parts i) i two) i one))
nodes_halved nodes [] i old one two e halves = absurd (cc)
nodes_halved nodes (part ∷ parts) zero old one two e halves =
    ap (option_map (λ halves. halves ++ map node_in parts)) (ap (λ (p : Part). halves_of nodes p.node) (same_Some _ _ e) ∙ halves)
nodes_halved nodes (part ∷ parts) (suc i) old one two e halves = ap (option_map (λ cut. part.node ∷ cut)) (nodes_halved nodes parts i old one two e halves)

nodes_small : (nodes : Nodes) (parts : List Part) (i : ℕ) (old : Part) → slice_get parts i ≡ Some old → halves_of nodes old.node ≡ Some (old.node ∷ [])
    → halved_at nodes (map node_in parts) i ≡ Some (map node_in parts)
nodes_small nodes [] i old e halves = absurd (cc)
nodes_small nodes (part ∷ parts) zero old e halves =
    let same : part ≡ old = same_Some _ _ e in
    ap (option_map (λ halves. halves ++ map node_in parts)) (ap (λ (p : Part). halves_of nodes p.node) same ∙ halves)
    ∙ ap (λ (p : Part). Some (p.node ∷ map node_in parts)) (sym same)
nodes_small nodes (part ∷ parts) (suc i) old e halves = ap (option_map (λ cut. part.node ∷ cut)) (nodes_small nodes parts i old e halves)

-- a split more
split_push : (nodes : Nodes) (moves : List Move) (at place : ℕ) (parts after : List Part) → cut_in nodes moves ≡ Some (map node_in parts) → at % length parts ≡ place
    → halved_at nodes (map node_in parts) place ≡ Some (map node_in after) → cut_in nodes (moves ++ move.Split at ∷ []) ≡ Some (map node_in after)
split_push nodes moves at place parts after cut here halved =
    cut_in-push nodes moves (move.Split at)
    ∙ ap (option_and_then (cut_behind nodes (move.Split at))) cut
    ∙ ap (λ n. halved_at nodes (map node_in parts) (at % n)) (length-map parts node_in)
    ∙ ap (halved_at nodes (map node_in parts)) here
    ∙ halved

-- ---- rows

-- of the rows that were read of a node the first ones are its left child's, and the rest its right one's
shared : (left right read rest : List Row) → left ++ right ≡ read ++ rest → AreFirst (take (length left) read) left × AreFirst (drop (length left) read) right
shared [] right read rest e = (([], refl), (rest, e))
shared (x ∷ left) right [] rest e = ((x ∷ left, refl), (right, refl))
shared (x ∷ left) right (y ∷ read) rest e =
    let heads : x ≡ y = cc in
    let tails : left ++ right ≡ read ++ rest = cc in
    let both = shared left right read rest tails in
    ((both.0.0, ap (λ z. z ∷ left) heads ∙ ap (λ rows. y ∷ rows) both.0.1), both.1)

-- the rows behind those that were read are the rest
pub rest_behind : (read rest all : List Row) → all ≡ read ++ rest → read ++ drop (length read) all ≡ all
rest_behind read rest all e = ap (λ rows. read ++ drop (length read) rows) e ∙ ap (λ rows. read ++ rows) (drop_at read rest (length read) refl) ∙ sym e

-- ---- roots

-- a root more
pub root_more : (parts : List Part) (part : Part) (n : ℕ) → map node_in parts ≡ range_with_len 0 n → AllByRecursion has_none parts → part.node ≡ n → rows_in part ≡ []
    → (map node_in (parts ++ part ∷ []) ≡ range_with_len 0 (n + 1)) × AllByRecursion has_none (parts ++ part ∷ [])
root_more parts part n are none is empty = (
  map-append node_in parts (part ∷ []) ∙ ap (λ l. l ++ part.node ∷ []) are ∙ ap (λ m. range_with_len 0 n ++ m ∷ []) (is ∙ sym (zero-add n)) ∙ sym (numbers-push 0 n),
  pushed parts none,
)
  where
    pushed : (parts : List Part) → AllByRecursion has_none parts → AllByRecursion has_none (parts ++ part ∷ [])
    pushed [] all = (empty, tt)
    pushed (first ∷ parts) all = (all.0, pushed parts all.1)

-- ---- steps

-- the roots, of which nothing was read
pub roots_stand : (columns : List Column) (history : History) (number : ℕ) (lease : Leased) (parts : List Part) → IsLegal columns history → IsOpen history number 0 lease
    → map node_in parts ≡ range_with_len 0 lease.roots → AllByRecursion has_none parts → Stands history number [] parts
roots_stand columns history number lease parts legal held nodes none =
    let tree = tree_of columns history number held.session legal held.begun in
    let are : map node_in parts ≡ range_with_len 0 held.session.nodes.roots = nodes ∙ ap (range_with_len 0) held.roots in
    record {
      session = held.session;
      begun = held.begun;
      cut = ap Some (sym are);
      first = unread parts none;
      some = some_root parts held.session.nodes.roots tree.some are;
    }
  where
    unread : (parts : List Part) → AllByRecursion has_none parts → AllByRecursion (λ (part : Part). AreFirst (rows_in part) (node_rows held.session history part.node)) parts
    unread [] all = tt
    unread (part ∷ parts) all = (
      (node_rows held.session history part.node, ap (λ rows. rows ++ node_rows held.session history part.node) (sym all.0)),
      unread parts all.1,
    )

    some_root : (parts : List Part) (count : ℕ) → 0 < count → map node_in parts ≡ range_with_len 0 count → 0 < length parts
    some_root (part ∷ parts) count more e = omega arith
    some_root [] zero more e = absurd (omega (arith, more))
    some_root [] (suc count) more e = absurd (cc)

-- more rows of a node are read
pub reads_on : (history : History) (number : ℕ) (moves : List Move) (parts after : List Part) (place : ℕ) (lease : Leased) (node : ℕ) → Stands history number moves parts
    → (reads : ReadsOn lease parts place after) → reads.old.node ≡ node → IsOpen history number node lease → Stands history number moves after
reads_on history number moves parts after place lease node stands reads here held =
    let same : held.session ≡ stands.session = same_Some _ _ (sym held.begun ∙ stands.begun) in
    let P : Part → Type 0 = λ part. AreFirst (rows_in part) (node_rows stands.session history part.node) in
    let read = all_get P parts place reads.old stands.first reads.there in
    let all = node_rows stands.session history reads.old.node in
    let count = length (rows_in reads.old) in
    let behind : rows_behind lease count ≡ drop count all =
    held.rows count ∙ ap (λ (session : Opened). drop count (node_rows session history node)) same ∙ ap (λ n. drop count (node_rows stands.session history n)) (sym here) in
    let whole : rows_in reads.old ++ rows_behind lease count ≡ all =
    ap (λ rows. rows_in reads.old ++ rows) behind ∙ rest_behind (rows_in reads.old) read.0 all read.1 in
    let first : AreFirst (rows_in reads.new) all = subst (AreFirst (rows_in reads.new)) whole reads.rows in
    let new : P reads.new = subst (λ n. AreFirst (rows_in reads.new) (node_rows stands.session history n)) (sym reads.node) first in
    record {
      session = stands.session;
      begun = stands.begun;
      cut = stands.cut ∙ ap Some (sym (ap (map node_in) reads.after_is ∙ nodes_set parts place reads.old reads.new reads.there reads.node));
      first = subst (AllByRecursion P) (sym reads.after_is) (all_set P parts place reads.new stands.first new);
      some = subst (λ n. 0 < n) (sym (ap length reads.after_is ∙ length-set parts place reads.new)) stands.some;
    }

-- the place of a read
pub read_stands : (history : History) (number : ℕ) (moves : List Move) (place count : ℕ) (parts : List Part) → Stands history number moves parts
    → Stands history number (moves ++ move.Read place count ∷ []) parts
read_stands history number moves place count parts stands = record {
  session = stands.session;
  begun = stands.begun;
  cut = cut_in-push stands.session.nodes moves (move.Read place count) ∙ ap (option_and_then (cut_behind stands.session.nodes (move.Read place count))) stands.cut;
  first = stands.first;
  some = stands.some;
}

two_or_more : (n : ℕ) → 2 ≤ n → nat_lt n 2 ≡ false
two_or_more n e = grind (arith, nat_tests)

one_or_none : (n : ℕ) → n < 2 → nat_lt n 2 ≡ true
one_or_none n e = grind (arith, nat_tests)

-- a node is read through its children
pub divided : (columns : List Column) (history : History) (number : ℕ) (moves : List Move) (at : ℕ) (parts after : List Part) (place left right : ℕ) (lease : Leased) (part : Part) → IsLegal columns history
    → Stands history number moves parts → slice_get parts place ≡ Some part → IsParent history number part.node left right → at % length parts ≡ place
    → IsOpen history number left lease → Divides lease parts place left right after → Stands history number (moves ++ move.Split at ∷ []) after
divided columns history number moves at parts after place left right lease part legal stands there parent here held divides =
    let session = stands.session in
    let same : held.session ≡ session = same_Some _ _ (sym held.begun ∙ stands.begun) in
    let other : parent.session ≡ session = same_Some _ _ (sym parent.begun ∙ stands.begun) in
    let is : divides.old ≡ part = same_Some _ _ (sym divides.there ∙ there) in
    let children : children_of session.nodes part.node ≡ Some (left, right) = ap (λ (s : Opened). children_of s.nodes part.node) (sym other) ∙ parent.children in
    let rows : 2 ≤ size (interval_of session.nodes part.node) = subst (λ (s : Opened). 2 ≤ size (interval_of s.nodes part.node)) other parent.rows in
    let halves : halves_of session.nodes part.node ≡ Some (divides.first.node ∷ divides.second.node ∷ []) =
    ap (λ small. halves_by part.node small (children_of session.nodes part.node)) (two_or_more (size (interval_of session.nodes part.node)) rows)
    ∙ ap (halves_by part.node false) children
    ∙ ap (λ n. Some (n ∷ right ∷ [])) (sym divides.left_is)
    ∙ ap (λ n. Some (divides.first.node ∷ n ∷ [])) (sym divides.right_is) in
    let P : Part → Type 0 = λ part. AreFirst (rows_in part) (node_rows session history part.node) in
    let read = all_get P parts place part stands.first there in
    let lefts = node_rows session history left in
    let rights = node_rows session history right in
    let joined : lefts ++ rights ≡ node_rows session history part.node =
    (nodes_join columns history number session legal stands.begun).children part.node left right children (keeps session.pred) (projected session.fields) in
    let both = shared lefts rights (rows_in part) read.0 (joined ∙ read.1) in
    let all_left : rows_behind lease 0 ≡ lefts = held.rows 0 ∙ ap (λ (s : Opened). node_rows s history left) same in
    let first_is : rows_in divides.first ≡ take (length lefts) (rows_in part) =
    divides.first_rows ∙ ap (λ rows. take (length rows) (rows_in divides.old)) all_left ∙ ap (λ (p : Part). take (length lefts) (rows_in p)) is in
    let second_is : rows_in divides.second ≡ drop (length lefts) (rows_in part) =
    divides.second_rows ∙ ap (λ rows. drop (length rows) (rows_in divides.old)) all_left ∙ ap (λ (p : Part). drop (length lefts) (rows_in p)) is in
    let one : P divides.first =
    subst (λ n. AreFirst (rows_in divides.first) (node_rows session history n)) (sym divides.left_is) (subst (λ rows. AreFirst rows lefts) (sym first_is) both.0) in
    let two : P divides.second =
    subst (λ n. AreFirst (rows_in divides.second) (node_rows session history n)) (sym divides.right_is) (subst (λ rows. AreFirst rows rights) (sym second_is) both.1) in
    let list = insert (insert (remove parts place) place divides.second) place divides.first in
    record {
      session = session;
      begun = stands.begun;
      cut = split_push session.nodes moves at place parts after stands.cut here
          (nodes_halved session.nodes parts place part divides.first divides.second there halves ∙ ap (λ l. Some (map node_in l)) (sym divides.after_is));
      first = subst (AllByRecursion P) (sym divides.after_is)
          (all_insert P (insert (remove parts place) place divides.second) place divides.first (all_insert P (remove parts place) place divides.second (all_remove P parts place stands.first) two) one);
      some = subst (λ (l : List Part). 0 < length l) (sym divides.after_is) (some_inserted (insert (remove parts place) place divides.second) place divides.first);
    }

-- a node of one row or none stays
pub small_stays : (history : History) (number : ℕ) (moves : List Move) (at : ℕ) (parts : List Part) (place : ℕ) (part : Part) → Stands history number moves parts
    → slice_get parts place ≡ Some part → IsSmall history number part.node → at % length parts ≡ place → Stands history number (moves ++ move.Split at ∷ []) parts
small_stays history number moves at parts place part stands there small here =
    let session = stands.session in
    let same : small.session ≡ session = same_Some _ _ (sym small.begun ∙ stands.begun) in
    let rows : size (interval_of session.nodes part.node) < 2 = subst (λ (s : Opened). size (interval_of s.nodes part.node) < 2) same small.rows in
    let halves : halves_of session.nodes part.node ≡ Some (part.node ∷ []) =
    ap (λ small. halves_by part.node small (children_of session.nodes part.node)) (one_or_none (size (interval_of session.nodes part.node)) rows) in
    record {
      session = session;
      begun = stands.begun;
      cut = split_push session.nodes moves at place parts parts stands.cut here (nodes_small session.nodes parts place part there halves);
      first = stands.first;
      some = stands.some;
    }
