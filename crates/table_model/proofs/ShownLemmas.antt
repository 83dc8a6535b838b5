-- How many rows a change makes visible.
use Rattle.std.proofs.Common.{◌≡◌, ℕ, ◌+◌, ◌*◌, ◌≤◌, Bool, true, false, ◌||◌, List, [], ◌∷◌, ◌++◌, length, take, refl, sym, ap, ◌∙◌, arith, zero-add}
use Rattle.std.specs.Prelude.{sum_by, if◌then◌else◌}
use Rattle.std.specs.List.{list_any}
use Rattle.std.proofs.lemmas.List.{append-nil, length-append, length-drop, length-take, length_push}
use Rattle.std.proofs.lemmas.List.Concat.{length-flat_map}
use Rattle.std.proofs.lemmas.List.Sums.{sum_by-cons}
use Rattle.column_types.specs.declared.column.Column.{Column}
use Rattle.column_types.specs.declared.row.Row.{Row}
use Rattle.table_model.specs.declared.limits.TheConstants.{MAX_WEIGHT}
use Rattle.table_model.specs.declared.entries.Entry.{Entry}
use Rattle.table_model.specs.declared.entries.Change.{Change}
use Rattle.table_model.specs.declared.entries.Change.TheVariants as change
use Rattle.table_model.specs.declared.streams.StreamRef.{StreamRef}
use Rattle.table_model.specs.Streams.{is_one_stream}
use Rattle.table_model.specs.History.{History}
use Rattle.table_model.specs.Content.{rows_onto, content_of}
use Rattle.table_model.specs.Facts.{flushed_of, size_added, weight_of, facts_of}
use Rattle.table_model.specs.Look.{look_of}
use Rattle.table_model.specs.Checks.{names_twice}
use Rattle.table_model.specs.Visible.{rows_shown, shows_at_once, visible_of}
use Rattle.table_model.specs.Accepted.{Makes}
use Rattle.table_model.specs.Table.{IsWithin}
use Rattle.table_model.proofs.LawLemmas.{gather-append}
use Rattle.table_model.proofs.SourceLemmas.{one_stream}
use Rattle.table_model.proofs.WeightLemmas.{length-le-size, end_of-le-weight}

pub visible_of-push : (history : History) (entry : Entry) → visible_of (history ++ entry ∷ []) ≡ visible_of history ++ rows_shown history entry.change
visible_of-push history entry =
    gather-append rows_shown [] history (entry ∷ []) ∙ ap (λ rows. visible_of history ++ rows) (append-nil (rows_shown history entry.change))

-- No change shows more rows than all rows weigh.
sum_by-add : {X : Type 0} (f g : X → ℕ) (xs : List X) → sum_by (λ x. f x + g x) xs ≡ sum_by f xs + sum_by g xs
sum_by-add f g [] = refl
sum_by-add f g (x ∷ xs) =
    let here = sum_by-cons (λ y. f y + g y) x xs in
    let first = sum_by-cons f x xs in
    let second = sum_by-cons g x xs in
    let rest = sum_by-add f g xs in
    omega (arith, here, first, second, rest)

none_onto : (to : StreamRef) (offset : ℕ) (rows : List Row) (bytes : ℕ) (streams : List StreamRef) → list_any (is_one_stream to) streams ≡ false
    → sum_by (λ on. length (rows_onto on (change.Append to offset rows bytes))) streams ≡ 0
none_onto to offset rows bytes [] none = refl
none_onto to offset rows bytes (s ∷ more) none =
    sum_by-cons (λ on. length (rows_onto on (change.Append to offset rows bytes))) s more
    ∙ either (is_one_stream s to) refl (is_one_stream to s) refl (none_onto to offset rows bytes more) none
  where
    either : (b : Bool) → is_one_stream s to ≡ b → (a : Bool) → is_one_stream to s ≡ a
        → (list_any (is_one_stream to) more ≡ false → sum_by (λ on. length (rows_onto on (change.Append to offset rows bytes))) more ≡ 0)
        → (a || list_any (is_one_stream to) more) ≡ false
        → length (if b then rows else []) + sum_by (λ on. length (rows_onto on (change.Append to offset rows bytes))) more ≡ 0
    either b e true h later n = absurd (cc)
    either false e false h later n = let rest = later n in omega (arith, rest)
    either true e false h later n =
        let same : s ≡ to = one_stream s to e in
        let here : is_one_stream to s ≡ true = ap (is_one_stream to) same ∙ ap (λ x. is_one_stream x to) (sym same) ∙ e in
        absurd (cc)

or_parts : (a b : Bool) → (a || b) ≡ false → (a ≡ false) × (b ≡ false)
or_parts false false e = (refl, refl)
or_parts false true e = absurd (cc)
or_parts true b e = absurd (cc)

once_onto : (to : StreamRef) (offset : ℕ) (rows : List Row) (bytes : ℕ) (streams : List StreamRef) → names_twice streams ≡ false
    → sum_by (λ on. length (rows_onto on (change.Append to offset rows bytes))) streams ≤ length rows
once_onto to offset rows bytes [] once = omega arith
once_onto to offset rows bytes (s ∷ more) once =
    let parts = or_parts (list_any (is_one_stream s) more) (names_twice more) once in
    let first = sum_by-cons (λ on. length (rows_onto on (change.Append to offset rows bytes))) s more in
    either (is_one_stream s to) refl parts.0 (once_onto to offset rows bytes more parts.1) first
  where
    either : (b : Bool) → is_one_stream s to ≡ b → list_any (is_one_stream s) more ≡ false
        → sum_by (λ on. length (rows_onto on (change.Append to offset rows bytes))) more ≤ length rows
        → sum_by (λ on. length (rows_onto on (change.Append to offset rows bytes))) (s ∷ more) ≡ length (if b then rows else []) + sum_by (λ on. length (rows_onto on (change.Append to offset rows bytes))) more
        → sum_by (λ on. length (rows_onto on (change.Append to offset rows bytes))) (s ∷ more) ≤ length rows
    either false e none rest first = omega (arith, first, rest)
    either true e none rest first =
        let same : s ≡ to = one_stream s to e in
        let others : sum_by (λ on. length (rows_onto on (change.Append to offset rows bytes))) more ≡ 0 = none_onto to offset rows bytes more (ap (λ x. list_any (is_one_stream x) more) (sym same) ∙ none) in
        omega (arith, first, others)

zeros : {X : Type 0} (xs : List X) → sum_by (λ x. 0) xs ≡ 0
zeros [] = refl
zeros (x ∷ xs) = sum_by-cons (λ y. 0) x xs ∙ zero-add (sum_by (λ y. 0) xs) ∙ zeros xs

entry_onto : (columns : ℕ) (c : Change) (streams : List StreamRef) → names_twice streams ≡ false → sum_by (λ on. length (rows_onto on c)) streams ≤ size_added columns c
entry_onto columns (change.Append to offset rows bytes) streams once =
    let rows_most = once_onto to offset rows bytes streams once in
    let size_most = length-le-size columns rows bytes in
    omega (arith, rows_most, size_most)
entry_onto columns (change.Create number kind) streams once = let none = zeros streams in omega (arith, none)
entry_onto columns (change.Flush to upto) streams once = let none = zeros streams in omega (arith, none)
entry_onto columns (change.Finalise to) streams once = let none = zeros streams in omega (arith, none)
entry_onto columns (change.Commit others) streams once = let none = zeros streams in omega (arith, none)
entry_onto columns (change.Session number at pred fields roots) streams once = let none = zeros streams in omega (arith, none)
entry_onto columns (change.Split session node left right) streams once = let none = zeros streams in omega (arith, none)

ends-le-weight : (columns : ℕ) (history : History) (streams : List StreamRef) → names_twice streams ≡ false
    → sum_by (λ on. length (content_of history on)) streams ≤ weight_of columns history
ends-le-weight columns [] streams once = let none = zeros streams in omega (arith, none)
ends-le-weight columns (entry ∷ more) streams once =
    let here = entry_onto columns entry.change streams once in
    let rest = ends-le-weight columns more streams once in
    let split : sum_by (λ on. length (content_of (entry ∷ more) on)) streams ≡ sum_by (λ on. length (rows_onto on entry.change) + length (content_of more on)) streams =
    sum_by-same (λ on. length (content_of (entry ∷ more) on)) (λ on. length (rows_onto on entry.change) + length (content_of more on)) streams (λ on. length-append (rows_onto on entry.change) (content_of more on)) in
    let parts = sum_by-add (λ on. length (rows_onto on entry.change)) (λ on. length (content_of more on)) streams in
    let weights = sum_by-cons (λ e. size_added columns e.change) entry more in
    omega (arith, here, rest, split, parts, weights)
  where
    sum_by-same : {X : Type 0} (f g : X → ℕ) (xs : List X) → ((x : X) → f x ≡ g x) → sum_by f xs ≡ sum_by g xs
    sum_by-same f g [] e = refl
    sum_by-same f g (x ∷ xs) e =
        sum_by-cons f x xs ∙ ap (λ n. n + sum_by f xs) (e x) ∙ ap (λ n. g x + n) (sum_by-same f g xs e) ∙ sym (sum_by-cons g x xs)

rows_if-le : (b : Bool) (rows : List Row) → length (if b then rows else []) ≤ length rows
rows_if-le true rows = omega arith
rows_if-le false rows = omega arith

pub rows_shown-le : (columns : List Column) (history : History) (caller : ℕ) (c : Change) → IsWithin columns history
    → Makes (facts_of (length columns) history caller) (look_of history) c → length (rows_shown history c) ≤ MAX_WEIGHT
rows_shown-le columns history caller (change.Create number kind) within makes = omega arith
rows_shown-le columns history caller (change.Append on offset rows bytes) within makes =
    let some = rows_if-le (shows_at_once history on) rows in
    let size = length-le-size (length columns) rows bytes in
    let light = makes.light in
    omega (arith, some, size, light)
rows_shown-le columns history caller (change.Flush on upto) within makes =
    let dropped = length-drop (flushed_of history on) (take upto (content_of history on)) in
    let taken = length-take upto (content_of history on) in
    let most = end_of-le-weight (length columns) history on in
    let light = within.light in
    omega (arith, dropped, taken, most, light)
rows_shown-le columns history caller (change.Finalise on) within makes = omega arith
rows_shown-le columns history caller (change.Commit streams) within makes =
    let joined = length-flat_map (content_of history) streams in
    let most = ends-le-weight (length columns) history streams makes.once in
    let light = within.light in
    omega (arith, joined, most, light)
rows_shown-le columns history caller (change.Session number at pred fields roots) within makes = omega arith
rows_shown-le columns history caller (change.Split session node left right) within makes = omega arith

-- one entry more
pub shown_push : (columns : List Column) (history : History) (caller : ℕ) (entry : Entry) → IsWithin columns history
    → Makes (facts_of (length columns) history caller) (look_of history) entry.change → length (visible_of (history ++ entry ∷ [])) ≤ length (history ++ entry ∷ []) * MAX_WEIGHT
shown_push columns history caller entry within makes =
    let rows = ap length (visible_of-push history entry) ∙ length-append (visible_of history) (rows_shown history entry.change) in
    let more = rows_shown-le columns history caller entry.change within makes in
    let before = within.shown in
    let entries = length_push history entry in
    omega (arith, rows, more, before, entries)
