-- Which rows were visible at a moment, and that the first entries show no more than all.
use Rattle.std.proofs.Common.{◌≡◌, ℕ, ◌+◌, ◌<◌, ◌≤◌, ◌^◌, ℤ, pos, ◌≤ℤ◌, Bool, true, false, List, [], ◌∷◌, ◌++◌, length, take, drop, get_or, refl, sym, ap, ◌∙◌, arith}
use Rattle.std.specs.Prelude.{int_le, cond, sum_by}
use Rattle.std.proofs.lemmas.Int.{ints}
use Rattle.std.proofs.lemmas.List.{length-append, take_more, take-append-drop}
use Rattle.std.proofs.lemmas.List.Concat.{flat_map-append, length-flat_map}
use Rattle.column_types.specs.declared.column.Column.{Column}
use Rattle.table_model.specs.declared.entries.Entry.{Entry}
use Rattle.table_model.specs.declared.entries.Change.{Change}
use Rattle.table_model.specs.declared.entries.Change.TheVariants as change
use Rattle.table_model.specs.declared.streams.StreamRef.{StreamRef}
use Rattle.table_model.specs.History.{History}
use Rattle.table_model.specs.Content.{rows_onto, content_of, end_of}
use Rattle.table_model.specs.Fits.{RisesFrom}
use Rattle.table_model.specs.Sessions.{accepted_by, visible_by}
use Rattle.table_model.specs.Visible.{gather, rows_shown, visible_of}
use Rattle.table_model.specs.Table.{IsWithin}
use Rattle.table_model.proofs.LawLemmas.{gather-append}
use Rattle.table_model.proofs.WeightLemmas.{end_of-le-weight}
use Rattle.table_model.proofs.ShownLemmas.{visible_of-push}

later_still : (least moment other : ℤ) → int_le least moment ≡ false → least ≤ℤ other → int_le other moment ≡ false
later_still least moment other above rises = grind (arith, ints)

none_later : (history : History) (least moment : ℤ) → RisesFrom least history → int_le least moment ≡ false → accepted_by history moment ≡ []
none_later [] least moment rises above = refl
none_later (entry ∷ more) least moment rises above =
    let here : int_le entry.moment moment ≡ false = later_still least moment entry.moment above rises.0 in
    ap (λ b. cond b (entry ∷ accepted_by more moment) (accepted_by more moment)) here ∙ none_later more entry.moment moment rises.1 here

-- the entries that were accepted by a moment are the first ones
accepted_first : (history : History) (least moment : ℤ) → RisesFrom least history → accepted_by history moment ≡ take (length (accepted_by history moment)) history
accepted_first [] least moment rises = refl
accepted_first (entry ∷ more) least moment rises =
    either (int_le entry.moment moment) refl (accepted_first more entry.moment moment rises.1)
  where
    either : (b : Bool) → int_le entry.moment moment ≡ b → accepted_by more moment ≡ take (length (accepted_by more moment)) more
        → cond b (entry ∷ accepted_by more moment) (accepted_by more moment) ≡ take (length (cond b (entry ∷ accepted_by more moment) (accepted_by more moment))) (entry ∷ more)
    either true e first = ap (λ xs. entry ∷ xs) first
    either false e first =
        let none : accepted_by more moment ≡ [] = none_later more entry.moment moment rises.1 e in
        none ∙ sym (ap (λ xs. take (length xs) (entry ∷ more)) none)

-- and there are no more of them than entries
pub accepted_few : (history : History) (moment : ℤ) → length (accepted_by history moment) ≤ length history
accepted_few [] moment = omega arith
accepted_few (entry ∷ more) moment = either (int_le entry.moment moment) (accepted_few more moment)
  where
    either : (b : Bool) → length (accepted_by more moment) ≤ length more
        → length (cond b (entry ∷ accepted_by more moment) (accepted_by more moment)) ≤ length (entry ∷ more)
    either true few = omega (arith, few)
    either false few = omega (arith, few)

-- what is counted over the first entries is what was visible
pub visible_first : (history : History) (moment : ℤ) (count i n : ℕ) → RisesFrom (pos 0) history → n ≡ length (accepted_by history moment) → i ≤ n → n ≤ i
    → count ≡ length (visible_of (take i history)) → count ≡ visible_by history moment
visible_first history moment count i n rises is below over counted =
    let all : i ≡ length (accepted_by history moment) = omega (arith, is, below, over) in
    counted ∙ ap (λ k. length (visible_of (take k history))) all ∙ sym (ap (λ h. length (visible_of h)) (accepted_first history (pos 0) moment rises))

-- one entry more
pub visible_more : (history : History) (i : ℕ) (read : Entry) → i < length history
    → length (visible_of (take (i + 1) history)) ≡ length (visible_of (take i history)) + length (rows_shown (take i history) (get_or history i read).change)
visible_more history i read within =
    let entry = get_or history i read in
    ap (λ h. length (visible_of h)) (take_more history i read within)
    ∙ ap length (visible_of-push (take i history) entry)
    ∙ length-append (visible_of (take i history)) (rows_shown (take i history) entry.change)

-- the first entries show no more than all
visible_front : (history : History) (i : ℕ) → length (visible_of (take i history)) ≤ length (visible_of history)
visible_front history i =
    let rest = gather rows_shown (take i history) (drop i history) in
    let joined : visible_of history ≡ visible_of (take i history) ++ rest = ap visible_of (sym (take-append-drop i history)) ∙ gather-append rows_shown [] (take i history) (drop i history) in
    let both = ap length joined ∙ length-append (visible_of (take i history)) rest in
    omega (arith, both)

pub visible_room : (history : History) (i : ℕ) (read : Entry) (bound : ℕ) → i < length history → length (visible_of history) < bound
    → length (visible_of (take i history)) + length (rows_shown (take i history) (get_or history i read).change) < bound
visible_room history i read bound within few =
    let more = visible_more history i read within in
    let front = visible_front history (i + 1) in
    omega (arith, more, front, few)

-- nor do they have more rows of a stream
pub end_front : (history : History) (i : ℕ) (on : StreamRef) (bound : ℕ) → end_of history on < bound → end_of (take i history) on < bound
end_front history i on bound few =
    let joined : content_of history on ≡ content_of (take i history) on ++ content_of (drop i history) on =
    ap (λ h. content_of h on) (sym (take-append-drop i history)) ∙ flat_map-append (λ entry. rows_onto on entry.change) (take i history) (drop i history) in
    let both = ap length joined ∙ length-append (content_of (take i history) on) (content_of (drop i history) on) in
    omega (arith, both, few)

-- a commit shows the rows of its streams
pub commit_shown : (before : History) (c : Change) (streams named : List StreamRef) → c ≡ change.Commit streams → named ≡ streams
    → length (rows_shown before c) ≡ sum_by (end_of before) named
commit_shown before c streams named is same =
    ap (λ x. length (rows_shown before x)) is ∙ length-flat_map (content_of before) streams ∙ ap (sum_by (end_of before)) (sym same)

-- the numbers of a table have their types
pub ends_fit : (columns : List Column) (history : History) → IsWithin columns history → (on : StreamRef) → end_of history on < 2 ^ 64
ends_fit columns history within on =
    let rows = end_of-le-weight (length columns) history on in
    let light = within.light in
    omega (arith, rows, light)

pub visible_fits : (columns : List Column) (history : History) → IsWithin columns history → length (visible_of history) < 2 ^ 64
visible_fits columns history within =
    let shown = within.shown in
    let few = within.few in
    omega (arith, shown, few)
