-- The rows of a stream that aren't visible, behind one entry more.
use Rattle.std.proofs.Common.{◌≡◌, ℕ, zero, suc, ◌+◌, ◌-◌, ◌<◌, ◌≤◌, ℤ, Bool, true, false, List, [], ◌∷◌, ◌++◌, length, drop, Some, refl, sym, ap, ◌∙◌, arith, add-zero}
use Rattle.std.specs.Prelude.{is_some, if◌then◌else◌}
use Rattle.std.specs.List.{list_any}
use Rattle.std.proofs.lemmas.List.{append-nil, length-append, drop-drop, drop_all, drop-append-le}
use Rattle.std.proofs.lemmas.List.Concat.{flat_map-append}
use Rattle.column_types.specs.declared.row.Row.{Row}
use Rattle.table_model.specs.declared.entries.Entry.{Entry}
use Rattle.table_model.specs.declared.entries.Change.{Change}
use Rattle.table_model.specs.declared.entries.Change.TheVariants as change
use Rattle.table_model.specs.declared.streams.StreamKind.{StreamKind}
use Rattle.table_model.specs.declared.streams.StreamRef.{StreamRef}
use Rattle.table_model.specs.declared.streams.StreamRef.TheVariants as stream
use Rattle.table_model.specs.Streams.{is_one_stream, is_buffered, is_pending}
use Rattle.table_model.specs.History.{History}
use Rattle.table_model.specs.Content.{rows_onto, content_of, end_of}
use Rattle.table_model.specs.Facts.{kind_after, kind_of, commits, committed_of, flushed_after, flushed_of, state_of}
use Rattle.table_model.specs.Visible.{shows_at_once, shown_by, shown_of}
use Rattle.table_model.specs.Checks.{stream_errors}
use Rattle.table_model.proofs.LawLemmas.{state_of-Some}
use Rattle.table_model.proofs.SourceLemmas.{one_stream, kind_of-push, flushed_of-push, committed_of-push, end_of-push, not_at_once, buffered_kind, pending_kind, good_of, each_good}
use Rattle.table_engine.specs.Waiting.{hidden_of}

pub content_of-push : (history : History) (entry : Entry) (on : StreamRef) → content_of (history ++ entry ∷ []) on ≡ content_of history on ++ rows_onto on entry.change
content_of-push history entry on =
    flat_map-append (λ e. rows_onto on e.change) history (entry ∷ []) ∙ ap (λ rows. content_of history on ++ rows) (append-nil (rows_onto on entry.change))

abbrev shown_after : History → Change → ℤ → StreamRef → ℕ
shown_after history c moment on =
    shown_by on (kind_after on (kind_of history on) c) (end_of history on + length (rows_onto on c)) (flushed_after on (flushed_of history on) c)
    (if commits on c then Some moment else committed_of history on)

shown_of-push : (history : History) (entry : Entry) (on : StreamRef) → shown_of (history ++ entry ∷ []) on ≡ shown_after history entry.change entry.moment on
shown_of-push history entry on =
    let after = history ++ entry ∷ [] in
    ap (λ k. shown_by on k (end_of after on) (flushed_of after on) (committed_of after on)) (kind_of-push history entry on)
    ∙ ap (λ n. shown_by on (kind_after on (kind_of history on) entry.change) n (flushed_of after on) (committed_of after on)) (end_of-push history entry on)
    ∙ ap (λ n. shown_by on (kind_after on (kind_of history on) entry.change) (end_of history on + length (rows_onto on entry.change)) n (committed_of after on)) (flushed_of-push history entry on)
    ∙ ap (λ o. shown_by on (kind_after on (kind_of history on) entry.change) (end_of history on + length (rows_onto on entry.change)) (flushed_after on (flushed_of history on) entry.change) o) (committed_of-push history entry on)

-- those behind the rows that are visible then
abbrev pub behind : History → Change → ℤ → StreamRef → List Row
behind history c moment on = drop (shown_after history c moment on) (content_of history on ++ rows_onto on c)

pub hidden_of-push : (history : History) (entry : Entry) (on : StreamRef) → hidden_of (history ++ entry ∷ []) on ≡ behind history entry.change entry.moment on
hidden_of-push history entry on =
    ap (λ n. drop n (content_of (history ++ entry ∷ []) on)) (shown_of-push history entry on)
    ∙ ap (drop (shown_after history entry.change entry.moment on)) (content_of-push history entry on)

abbrev shown_cases : Bool → Bool → Bool → ℕ → ℕ → ℕ
shown_cases at_once buffered committed end flushed = if at_once then end else (if buffered then flushed else (if committed then end else 0))

pub stays : (history : History) (on : StreamRef)
    → drop (shown_by on (kind_of history on) (end_of history on + 0) (flushed_of history on) (committed_of history on)) (content_of history on ++ []) ≡ hidden_of history on
stays history on =
    ap (λ n. drop (shown_by on (kind_of history on) n (flushed_of history on) (committed_of history on)) (content_of history on ++ [])) (add-zero (end_of history on))
    ∙ ap (drop (shown_of history on)) (append-nil (content_of history on))

drop-nil : (n : ℕ) → drop {A = Row} n [] ≡ []
drop-nil zero = refl
drop-nil (suc n) = refl

no_rows : (rows : List Row) → length rows ≡ 0 → rows ≡ []
no_rows [] e = refl
no_rows (row ∷ rows) e = absurd (omega arith)

-- a new stream has no rows
pub hidden_create : (history : History) (number : ℕ) (new : StreamKind) (moment : ℤ) → end_of history (stream.Number number) ≡ 0
    → (on : StreamRef) → behind history (change.Create number new) moment on ≡ hidden_of history on
hidden_create history number new moment none on = either (is_one_stream on (stream.Number number)) refl
  where
    either : (b : Bool) → is_one_stream on (stream.Number number) ≡ b
        → drop (shown_by on (if b then new else kind_of history on) (end_of history on + 0) (flushed_of history on) (committed_of history on)) (content_of history on ++ []) ≡ hidden_of history on
    either false e = stays history on
    either true e =
        let nothing : content_of history on ≡ [] = no_rows (content_of history on) (ap (end_of history) (one_stream on (stream.Number number) e) ∙ none) in
        let after = shown_by on new (end_of history on + 0) (flushed_of history on) (committed_of history on) in
        ap (λ rows. drop after (rows ++ [])) nothing ∙ drop-nil after ∙ sym (ap (drop (shown_of history on)) nothing ∙ drop-nil (shown_of history on))

append_cases : (a b o : Bool) (flushed : ℕ) (content rows : List Row) → o ≡ false → flushed ≤ length content
    → drop (shown_cases a b o (length content + length rows) flushed) (content ++ rows)
    ≡ (if a then drop (shown_cases a b o (length content) flushed) content else drop (shown_cases a b o (length content) flushed) content ++ rows)
append_cases true b o flushed content rows uncommitted within =
    drop_all (length content + length rows) (content ++ rows) (omega (arith, length-append content rows)) ∙ sym (drop_all (length content) content (omega arith))
append_cases false true o flushed content rows uncommitted within = drop-append-le flushed content rows within
append_cases false false true flushed content rows uncommitted within = absurd (cc)
append_cases false false false flushed content rows uncommitted within = refl

-- rows appended to a stream are visible at once, or stand behind those that aren't visible
pub hidden_append : (history : History) (s : StreamRef) (at : ℕ) (rows : List Row) (bytes : ℕ) (moment : ℤ) → is_some (committed_of history s) ≡ false
    → ((on : StreamRef) → flushed_of history on ≤ end_of history on)
    → (on : StreamRef) → behind history (change.Append s at rows bytes) moment on
    ≡ (if shows_at_once history s then hidden_of history on else (if is_one_stream on s then hidden_of history on ++ rows else hidden_of history on))
hidden_append history s at rows bytes moment uncommitted within on = either (is_one_stream on s) refl
  where
    alike : (a : Bool) → hidden_of history on ≡ (if a then hidden_of history on else hidden_of history on)
    alike true = refl
    alike false = refl

    either : (b : Bool) → is_one_stream on s ≡ b
        → drop (shown_by on (kind_of history on) (end_of history on + length (if b then rows else [])) (flushed_of history on) (committed_of history on)) (content_of history on ++ (if b then rows else []))
        ≡ (if shows_at_once history s then hidden_of history on else (if b then hidden_of history on ++ rows else hidden_of history on))
    either false e = stays history on ∙ alike (shows_at_once history s)
    either true e =
        let same : on ≡ s = one_stream on s e in
        append_cases (shows_at_once history on) (is_buffered (kind_of history on)) (is_some (committed_of history on)) (flushed_of history on) (content_of history on) rows
        (ap (λ x. is_some (committed_of history x)) same ∙ uncommitted) (within on)
        ∙ ap (λ x. if shows_at_once history x then hidden_of history on else hidden_of history on ++ rows) same

flush_cases : (a b o : Bool) (after end flushed upto : ℕ) (content : List Row) → a ≡ false → b ≡ true → flushed < upto
    → drop (shown_cases a b o after upto) (content ++ []) ≡ drop (upto - flushed) (drop (shown_cases a b o end flushed) content)
flush_cases true b o after end flushed upto content p q rising = absurd (cc)
flush_cases false false o after end flushed upto content p q rising = absurd (cc)
flush_cases false true o after end flushed upto content p q rising =
    let whole : flushed + (upto - flushed) ≡ upto = omega (arith, rising) in
    ap (drop upto) (append-nil content) ∙ ap (λ n. drop n content) (sym whole) ∙ sym (drop-drop (upto - flushed) flushed content)

-- a flush makes the first of them visible
pub hidden_flush : (history : History) (s : StreamRef) (upto : ℕ) (moment : ℤ) → is_buffered (kind_of history s) ≡ true → flushed_of history s < upto
    → (on : StreamRef) → behind history (change.Flush s upto) moment on ≡ (if is_one_stream on s then drop (upto - flushed_of history s) (hidden_of history s) else hidden_of history on)
hidden_flush history s upto moment buffered rising on = either (is_one_stream on s) refl
  where
    here : drop (shown_by s (kind_of history s) (end_of history s + 0) upto (committed_of history s)) (content_of history s ++ []) ≡ drop (upto - flushed_of history s) (hidden_of history s)
    here =
        flush_cases (shows_at_once history s) (is_buffered (kind_of history s)) (is_some (committed_of history s)) (end_of history s + 0) (end_of history s) (flushed_of history s) upto (content_of history s)
        (not_at_once history s (buffered_kind (kind_of history s) buffered)) buffered rising

    either : (b : Bool) → is_one_stream on s ≡ b
        → drop (shown_by on (kind_of history on) (end_of history on + 0) (if b then upto else flushed_of history on) (committed_of history on)) (content_of history on ++ [])
        ≡ (if b then drop (upto - flushed_of history s) (hidden_of history s) else hidden_of history on)
    either false e = stays history on
    either true e =
        ap (λ x. drop (shown_by x (kind_of history x) (end_of history x + 0) upto (committed_of history x)) (content_of history x ++ [])) (one_stream on s e) ∙ here

commit_cases : (a b : Bool) (flushed : ℕ) (content : List Row) → a ≡ false → b ≡ false → drop (shown_cases a b true (length content + 0) flushed) (content ++ []) ≡ []
commit_cases true b flushed content p q = absurd (cc)
commit_cases false true flushed content p q = absurd (cc)
commit_cases false false flushed content p q = drop_all (length content + 0) (content ++ []) (omega (arith, length-append content []))

-- a commit makes all of them visible
pub hidden_commit : (history : History) (streams : List StreamRef) (moment : ℤ) → stream_errors (λ s. state_of history s) streams ≡ []
    → (on : StreamRef) → behind history (change.Commit streams) moment on ≡ (if list_any (is_one_stream on) streams then [] else hidden_of history on)
hidden_commit history streams moment good on = either (list_any (is_one_stream on) streams) refl
  where
    either : (b : Bool) → list_any (is_one_stream on) streams ≡ b
        → drop (shown_by on (kind_of history on) (end_of history on + 0) (flushed_of history on) (if b then Some moment else committed_of history on)) (content_of history on ++ [])
        ≡ (if b then [] else hidden_of history on)
    either false e = stays history on
    either true e =
        let fine = good_of (state_of history on) (each_good (λ s. state_of history s) 0 streams on good e) in
        let is = (state_of-Some history on fine.0 fine.1).1 in
        let kinds = pending_kind (kind_of history on) (ap (λ st. is_pending st.kind) is ∙ fine.2) in
        commit_cases (shows_at_once history on) (is_buffered (kind_of history on)) (flushed_of history on) (content_of history on) (not_at_once history on kinds.0) kinds.1
