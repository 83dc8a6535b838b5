-- The rows at the sources of the visible rows are the visible rows.
use Rattle.std.proofs.Common.{◌≡◌, ℕ, zero, suc, ◌+◌, Bool, true, false, List, [], ◌∷◌, ◌++◌, append_assoc, length, map, take, drop, Some, refl, sym, ap, ◌∙◌, arith}
use Rattle.std.specs.Prelude.{Option, slice_get, if◌then◌else◌}
use Rattle.std.specs.List.{flat_map, range_with_len}
use Rattle.std.proofs.lemmas.Bool.Decides.{nat_tests}
use Rattle.std.proofs.lemmas.List.{append-nil, length_push, map-append, take-map, drop-map}
use Rattle.std.proofs.lemmas.List.Concat.{flat_map-append}
use Rattle.column_types.specs.declared.column.Column.{Column}
use Rattle.column_types.specs.declared.row.Row.{Row}
use Rattle.table_model.specs.declared.entries.Entry.{Entry}
use Rattle.table_model.specs.declared.entries.Change.{Change}
use Rattle.table_model.specs.declared.entries.Change.TheVariants as change
use Rattle.table_model.specs.declared.streams.StreamRef.{StreamRef}
use Rattle.table_model.specs.declared.streams.StreamRef.TheVariants as stream
use Rattle.table_model.specs.Streams.{is_one_stream}
use Rattle.table_model.specs.History.{History}
use Rattle.table_model.specs.Content.{rows_onto, content_of, end_of}
use Rattle.table_model.specs.Facts.{flushed_of, has_stream, facts_of}
use Rattle.table_model.specs.Look.{look_of}
use Rattle.table_model.specs.Visible.{Source, shows_at_once, rows_shown, visible_of, sources_from, sources_in, sources_shown, sources_of, row_at}
use Rattle.table_model.specs.Accepted.{Makes}
use Rattle.table_model.specs.Legal.{EachIsAccepted}
use Rattle.table_model.specs.Laws.{SourcesAreRows}
use Rattle.table_model.proofs.AcceptedLemmas.{answer_by-Accept}
use Rattle.table_model.proofs.LawLemmas.{state_of-Some}
use Rattle.table_model.proofs.ShownLemmas.{visible_of-push}
use Rattle.table_model.proofs.SourceLemmas.{sources_of-push}

-- in a history the rows at these sources are these rows
abbrev AreRows : History → List Source → List Row → Type 0
AreRows history sources rows = map (row_at history) sources ≡ map Some rows

-- ---- lists

cons_parts : {X : Type 0} (x y : X) (xs ys : List X) → x ∷ xs ≡ y ∷ ys → (x ≡ y) × (xs ≡ ys)
cons_parts x y xs ys e = (cc, cc)

slice_get-front : {X : Type 0} (xs ys : List X) (i : ℕ) (x : X) → slice_get xs i ≡ Some x → slice_get (xs ++ ys) i ≡ Some x
slice_get-front [] ys i x e = absurd (cc)
slice_get-front (y ∷ xs) ys zero x e = e
slice_get-front (y ∷ xs) ys (suc i) x e = slice_get-front xs ys i x e

slice_get-behind : {X : Type 0} (xs ys : List X) (y : X) → slice_get (xs ++ y ∷ ys) (length xs) ≡ Some y
slice_get-behind [] ys y = refl
slice_get-behind (x ∷ xs) ys y = slice_get-behind xs ys y

-- the items of a piece stand at the places from its start on
piece_of : {X : Type 0} (before items after : List X) (n : ℕ) → n ≡ length items → map (slice_get (before ++ (items ++ after))) (range_with_len (length before) n) ≡ map Some items
piece_of before [] after zero all = refl
piece_of before [] after (suc n) all = absurd (omega (arith, all))
piece_of before (x ∷ items) after zero all = absurd (omega (arith, all))
piece_of {X} before (x ∷ items) after (suc n) all =
    let rest : n ≡ length items = omega (arith, all) in
    ap (λ o. o ∷ map (slice_get (before ++ x ∷ (items ++ after))) (range_with_len (length before + 1) n)) (slice_get-behind before (items ++ after) x)
    ∙ ap (λ (l : List (Option X)). Some x ∷ l) (
    ap (λ k. map (slice_get (before ++ x ∷ (items ++ after))) (range_with_len k n)) (sym (length_push before x))
    ∙ ap (λ l. map (slice_get l) (range_with_len (length (before ++ x ∷ [])) n)) (sym (append_assoc before (x ∷ []) (items ++ after)))
    ∙ piece_of (before ++ x ∷ []) items after n rest)

piece : {X : Type 0} (before items after : List X) → map (slice_get (before ++ (items ++ after))) (range_with_len (length before) (length items)) ≡ map Some items
piece before items after = piece_of before items after (length items) refl

-- ---- sources

sources_read : (history : History) (on : StreamRef) (from n : ℕ) → map (row_at history) (sources_from on from n) ≡ map (slice_get (content_of history on)) (range_with_len from n)
sources_read history on from zero = refl
sources_read history on from (suc n) = ap (λ l. slice_get (content_of history on) from ∷ l) (sources_read history on (from + 1) n)

content_of-append : (history more : History) (on : StreamRef) → content_of (history ++ more) on ≡ content_of history on ++ content_of more on
content_of-append history more on = flat_map-append (λ (e : Entry). rows_onto on e.change) history more

-- rows stay where they are
are_later : (history more : History) (sources : List Source) (rows : List Row) → AreRows history sources rows → AreRows (history ++ more) sources rows
are_later history more [] [] e = refl
are_later history more [] (row ∷ rows) e = absurd (cc)
are_later history more (source ∷ sources) [] e = absurd (cc)
are_later history more (source ∷ sources) (row ∷ rows) e =
    let parts = cons_parts (row_at history source) (Some row) (map (row_at history) sources) (map Some rows) e in
    let here : row_at (history ++ more) source ≡ Some row =
    ap (λ l. slice_get l source.1) (content_of-append history more source.0) ∙ slice_get-front (content_of history source.0) (content_of more source.0) source.1 row parts.0 in
    ap (λ o. o ∷ map (row_at (history ++ more)) sources) here ∙ ap (λ (l : List (Option Row)). Some row ∷ l) (are_later history more sources rows parts.1)

are_joined : (history : History) (one other : List Source) (rows more : List Row) → AreRows history one rows → AreRows history other more → AreRows history (one ++ other) (rows ++ more)
are_joined history one other rows more p q =
    map-append (row_at history) one other ∙ ap (λ l. l ++ map (row_at history) other) p ∙ ap (λ (l : List (Option Row)). map Some rows ++ l) q ∙ sym (map-append Some rows more)

-- all rows of a stream
are_all : (history : History) (on : StreamRef) → AreRows history (sources_in history on) (content_of history on)
are_all history on =
    sources_read history on 0 (end_of history on)
    ∙ ap (λ l. map (slice_get l) (range_with_len 0 (end_of history on))) (sym (append-nil (content_of history on)))
    ∙ piece [] (content_of history on) []

-- some of its rows
are_between : (history : History) (low high : ℕ) (sources : List Source) (rows : List Row) → AreRows history sources rows
    → AreRows history (drop low (take high sources)) (drop low (take high rows))
are_between history low high sources rows e =
    sym (drop-map (row_at history) low (take high sources))
    ∙ ap (drop low) (sym (take-map (row_at history) high sources) ∙ ap (take high) e ∙ take-map Some high rows)
    ∙ drop-map Some low (take high rows)

are_streams : (history : History) (streams : List StreamRef) → AreRows history (flat_map (sources_in history) streams) (flat_map (content_of history) streams)
are_streams history [] = refl
are_streams history (on ∷ streams) =
    are_joined history (sources_in history on) (flat_map (sources_in history) streams) (content_of history on) (flat_map (content_of history) streams) (are_all history on) (are_streams history streams)

-- ---- one entry more

is_itself : (history : History) (on : StreamRef) → has_stream history on ≡ true → is_one_stream on on ≡ true
is_itself history stream.Default there = refl
is_itself history (stream.Number n) there = grind (arith, nat_tests)
is_itself history stream.Other there = absurd (cc)

are_appended : (history : History) (on : StreamRef) (entry : Entry) (rows : List Row) → rows_onto on entry.change ≡ rows
    → AreRows (history ++ entry ∷ []) (sources_from on (end_of history on) (length rows)) rows
are_appended history on entry rows onto =
    let one : content_of (entry ∷ []) on ≡ rows ++ [] = ap (λ l. l ++ []) onto in
    let whole : content_of (history ++ entry ∷ []) on ≡ content_of history on ++ (rows ++ []) =
    content_of-append history (entry ∷ []) on ∙ ap (λ l. content_of history on ++ l) one in
    sources_read (history ++ entry ∷ []) on (end_of history on) (length rows)
    ∙ ap (λ l. map (slice_get l) (range_with_len (end_of history on) (length rows))) whole
    ∙ piece (content_of history on) rows []

are_if : (history : History) (b : Bool) (sources : List Source) (rows : List Row) → AreRows history sources rows → AreRows history (if b then sources else []) (if b then rows else [])
are_if history true sources rows e = e
are_if history false sources rows e = refl

are_shown : (columns : ℕ) (history : History) (caller : ℕ) (entry : Entry) (c : Change) → entry.change ≡ c → Makes (facts_of columns history caller) (look_of history) c
    → AreRows (history ++ entry ∷ []) (sources_shown history c) (rows_shown history c)
are_shown columns history caller entry (change.Append on offset rows bytes) is makes =
    let there = (state_of-Some history on makes.state makes.there).0 in
    let onto : rows_onto on entry.change ≡ rows = ap (rows_onto on) is ∙ ap (λ b. if b then rows else []) (is_itself history on there) in
    are_if (history ++ entry ∷ []) (shows_at_once history on) (sources_from on (end_of history on) (length rows)) rows (are_appended history on entry rows onto)
are_shown columns history caller entry (change.Flush on upto) is makes =
    are_later history (entry ∷ []) (drop (flushed_of history on) (take upto (sources_in history on))) (drop (flushed_of history on) (take upto (content_of history on)))
    (are_between history (flushed_of history on) upto (sources_in history on) (content_of history on) (are_all history on))
are_shown columns history caller entry (change.Commit streams) is makes =
    are_later history (entry ∷ []) (flat_map (sources_in history) streams) (flat_map (content_of history) streams) (are_streams history streams)
are_shown columns history caller entry (change.Create number kind) is makes = refl
are_shown columns history caller entry (change.Finalise on) is makes = refl
are_shown columns history caller entry (change.Session number at pred fields roots) is makes = refl
are_shown columns history caller entry (change.Split session node left right) is makes = refl

are_pushed : (columns : ℕ) (history : History) (entry : Entry) → AreRows history (sources_of history) (visible_of history)
    → Makes (facts_of columns history entry.caller) (look_of history) entry.change
    → AreRows (history ++ entry ∷ []) (sources_of (history ++ entry ∷ [])) (visible_of (history ++ entry ∷ []))
are_pushed columns history entry were makes =
    rw (sources_of-push history entry, visible_of-push history entry) (
    are_joined (history ++ entry ∷ []) (sources_of history) (sources_shown history entry.change) (visible_of history) (rows_shown history entry.change)
    (are_later history (entry ∷ []) (sources_of history) (visible_of history) were)
    (are_shown columns history entry.caller entry entry.change refl makes))

are_more : (columns : List Column) (before more : History) → AreRows before (sources_of before) (visible_of before) → EachIsAccepted columns before more
    → AreRows (before ++ more) (sources_of (before ++ more)) (visible_of (before ++ more))
are_more columns before [] were each = rw (append-nil before) were
are_more columns before (entry ∷ more) were each =
    let made = answer_by-Accept (facts_of (length columns) before entry.caller) (look_of before) each.0.asked each.0.reading entry each.0.reply each.0.answered in
    rw (← append_assoc before (entry ∷ []) more) (
    are_more columns (before ++ entry ∷ []) more (are_pushed (length columns) before entry were made.makes) each.1)

pub are_rows : SourcesAreRows
are_rows columns history legal = are_more columns [] history refl legal
