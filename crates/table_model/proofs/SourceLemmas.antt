-- How often a row of a stream stands among the sources of the visible rows.
use Rattle.std.proofs.Common.{◌≡◌, ℕ, zero, suc, ◌+◌, ◌<◌, ◌≤◌, ℤ, Bool, true, false, not, cond, ◌&&◌, ◌||◌, List, [], ◌∷◌, ◌++◌, length, take, drop, None, Some, refl, sym, ap, ◌∙◌, arith, add-zero, zero-add, append_assoc}
use Rattle.std.specs.Prelude.{Option, nat_lt, nat_le, ◌==◌, is_some, fold, if◌then◌else◌}
use Rattle.std.specs.List.{flat_map, filter_map, list_any, enumerate_from, cons_option}
use Rattle.std.proofs.lemmas.Bool.{eqb-true}
use Rattle.std.proofs.lemmas.Bool.Decides.{nat_tests}
use Rattle.std.proofs.lemmas.List.{append-nil, take-append-drop}
use Rattle.std.proofs.lemmas.List.FromFn.{take-map-range_with_len}
use Rattle.std.proofs.lemmas.List.Sums.{fold_push, sum_by-cons, sum_by-append, sum_by_push}
use Rattle.std.proofs.lemmas.List.Folds.{list_any-append}
use Rattle.column_types.specs.declared.column.Column.{Column}
use Rattle.column_types.specs.declared.row.Row.{Row}
use Rattle.table_model.specs.declared.entries.Entry.{Entry}
use Rattle.table_model.specs.declared.entries.Change.{Change}
use Rattle.table_model.specs.declared.entries.Change.TheVariants as change
use Rattle.table_model.specs.declared.replies.StreamError.{StreamError}
use Rattle.table_model.specs.declared.replies.TheConstants.{INVALID_STREAM_TYPE, STREAM_ALREADY_COMMITTED, INVALID_STREAM_STATE}
use Rattle.table_model.specs.declared.streams.StreamKind.{StreamKind}
use Rattle.table_model.specs.declared.streams.StreamKind.TheVariants as kind
use Rattle.table_model.specs.declared.streams.StreamRef.{StreamRef}
use Rattle.table_model.specs.declared.streams.StreamRef.TheVariants as stream
use Rattle.table_model.specs.declared.streams.StreamState.{StreamState}
use Rattle.table_model.specs.Streams.{is_one_stream, is_default, is_committed_kind, is_buffered, is_pending}
use Rattle.table_model.specs.History.{History, is_create, streams_of}
use Rattle.table_model.specs.Content.{rows_onto, end_of}
use Rattle.table_model.specs.Facts.{kind_after, kind_of, commits, committed_of, finalises, is_finalised, flushed_after, flushed_of, has_stream, state_in, state_of, facts_of}
use Rattle.table_model.specs.Look.{look_of}
use Rattle.table_model.specs.Visible.{Source, shows_at_once, sources_from, sources_in, sources_shown, sources_of, shown_by, shown_of, is_source, times}
use Rattle.table_model.specs.Checks.{names_twice, stream_code, stream_errors, error_at}
use Rattle.table_model.specs.Accepted.{Makes}
use Rattle.table_model.specs.Legal.{EachIsAccepted}
use Rattle.table_model.specs.Laws.{SourcesStandOnce, NoSourceTwice}
use Rattle.table_model.proofs.AcceptedLemmas.{answer_by-Accept}
use Rattle.table_model.proofs.LawLemmas.{gather-append, state_of-Some}
use Rattle.table_model.proofs.WalkLemmas.{end_is_sum}

pub one_stream : (a b : StreamRef) → is_one_stream a b ≡ true → a ≡ b
one_stream stream.Default stream.Default e = refl
one_stream stream.Default (stream.Number b) e = absurd (cc)
one_stream stream.Default stream.Other e = absurd (cc)
one_stream (stream.Number a) stream.Default e = absurd (cc)
one_stream (stream.Number a) (stream.Number b) e = ap stream.Number (eqb-true a b e)
one_stream (stream.Number a) stream.Other e = absurd (cc)
one_stream stream.Other stream.Default e = absurd (cc)
one_stream stream.Other (stream.Number b) e = absurd (cc)
one_stream stream.Other stream.Other e = absurd (cc)

-- Counts of sources.
times-from : (on : StreamRef) (i : ℕ) (s : StreamRef) (from n : ℕ)
    → times on i (sources_from s from n) ≡ cond (is_one_stream on s && (nat_le from i && nat_lt i (from + n))) 1 0
times-from on i s from zero = none (is_one_stream on s)
  where
    none : (b : Bool) → ◌≡◌ {A = ℕ} 0 (cond (b && (nat_le from i && nat_lt i (from + 0))) 1 0)
    none false = refl
    none true = grind (arith, nat_tests)
times-from on i s from (suc n) =
    sum_by-cons (λ source. cond (is_source on i source) 1 0) (s, from) (sources_from s (from + 1) n)
    ∙ ap (λ m. cond (is_one_stream on s && i == from) 1 0 + m) (times-from on i s (from + 1) n)
    ∙ first (is_one_stream on s)
  where
    first : (b : Bool) → cond (b && i == from) 1 0 + cond (b && (nat_le (from + 1) i && nat_lt i (from + 1 + n))) 1 0 ≡ cond (b && (nat_le from i && nat_lt i (from + suc n))) 1 0
    first false = refl
    first true = grind (arith, nat_tests)

times-append : (on : StreamRef) (i : ℕ) (xs ys : List Source) → times on i (xs ++ ys) ≡ times on i xs + times on i ys
times-append on i xs ys = sum_by-append (λ source. cond (is_source on i source) 1 0) xs ys

-- those of one stream are among none of another
times-other : (history : History) (on : StreamRef) (i : ℕ) (s : StreamRef) (from n : ℕ) → is_one_stream on s ≡ false → times on i (sources_from s from n) ≡ 0
times-other history on i s from n e = times-from on i s from n ∙ ap (λ b. cond (b && (nat_le from i && nat_lt i (from + n))) 1 0) e

-- the rows of one stream from a count up to another
times-between : (on : StreamRef) (i : ℕ) (s : StreamRef) (low high end : ℕ) → low ≤ high → high ≤ end
    → times on i (drop low (take high (sources_from s 0 end))) + cond (is_one_stream on s && nat_lt i low) 1 0 ≡ cond (is_one_stream on s && nat_lt i high) 1 0
times-between on i s low high end rising within =
    let all = sources_from s 0 high in
    let taken : take high (sources_from s 0 end) ≡ all = take-map-range_with_len (λ at. (s, at)) 0 end high within in
    let front : take low all ≡ sources_from s 0 low = take-map-range_with_len (λ at. (s, at)) 0 high low rising in
    let whole : times on i (take low all) + times on i (drop low all) ≡ times on i all =
    sym (times-append on i (take low all) (drop low all)) ∙ ap (times on i) (take-append-drop low all) in
    let counted : times on i (take low all) ≡ cond (is_one_stream on s && (nat_le 0 i && nat_lt i (0 + low))) 1 0 = ap (times on i) front ∙ times-from on i s 0 low in
    let every : times on i all ≡ cond (is_one_stream on s && (nat_le 0 i && nat_lt i (0 + high))) 1 0 = times-from on i s 0 high in
    rw taken (split (is_one_stream on s) (times on i (take low all)) (times on i (drop low all)) (times on i all) whole counted every)
  where
    split : (b : Bool) (first rest total : ℕ) → first + rest ≡ total → first ≡ cond (b && (nat_le 0 i && nat_lt i (0 + low))) 1 0 → total ≡ cond (b && (nat_le 0 i && nat_lt i (0 + high))) 1 0
        → rest + cond (b && nat_lt i low) 1 0 ≡ cond (b && nat_lt i high) 1 0
    split false first rest total sums here there = omega arith
    split true first rest total sums here there = grind (arith, nat_tests)

or_parts : (a b : Bool) → (a || b) ≡ false → (a ≡ false) × (b ≡ false)
or_parts false false e = (refl, refl)
or_parts false true e = absurd (cc)
or_parts true b e = absurd (cc)

-- all rows of streams of which none is named twice
times-streams : (history : History) (on : StreamRef) (i : ℕ) (streams : List StreamRef) → names_twice streams ≡ false
    → times on i (flat_map (sources_in history) streams) ≡ cond (list_any (is_one_stream on) streams && nat_lt i (end_of history on)) 1 0
times-streams history on i [] once = refl
times-streams history on i (s ∷ more) once =
    let parts = or_parts (list_any (is_one_stream s) more) (names_twice more) once in
    times-append on i (sources_in history s) (flat_map (sources_in history) more)
    ∙ ap (λ n. n + times on i (flat_map (sources_in history) more)) (times-from on i s 0 (end_of history s))
    ∙ ap (λ n. cond (is_one_stream on s && (nat_le 0 i && nat_lt i (0 + end_of history s))) 1 0 + n) (times-streams history on i more parts.1)
    ∙ here (is_one_stream on s) refl parts.0
  where
    here : (b : Bool) → is_one_stream on s ≡ b → list_any (is_one_stream s) more ≡ false
        → cond (b && (nat_le 0 i && nat_lt i (0 + end_of history s))) 1 0 + cond (list_any (is_one_stream on) more && nat_lt i (end_of history on)) 1 0
        ≡ cond ((b || list_any (is_one_stream on) more) && nat_lt i (end_of history on)) 1 0
    here false is new = refl_zero (cond (list_any (is_one_stream on) more && nat_lt i (end_of history on)) 1 0)
      where
        refl_zero : (n : ℕ) → 0 + n ≡ n
        refl_zero n = zero-add n
    here true is new =
        let same : on ≡ s = one_stream on s is in
        let none : list_any (is_one_stream on) more ≡ false = rw same new in
        rw (none, same) (last (end_of history s))
      where
        last : (end : ℕ) → cond (nat_le 0 i && nat_lt i (0 + end)) 1 0 + 0 ≡ cond (nat_lt i end) 1 0
        last end = grind (arith, nat_tests)

-- What an entry more says of a stream.
pub kind_of-push : (history : History) (entry : Entry) (on : StreamRef) → kind_of (history ++ entry ∷ []) on ≡ kind_after on (kind_of history on) entry.change
kind_of-push history entry on = fold_push (λ before e. kind_after on before e.change) kind.Committed history entry

pub flushed_of-push : (history : History) (entry : Entry) (on : StreamRef) → flushed_of (history ++ entry ∷ []) on ≡ flushed_after on (flushed_of history on) entry.change
flushed_of-push history entry on = fold_push (λ before e. flushed_after on before e.change) 0 history entry

pub committed_of-push : (history : History) (entry : Entry) (on : StreamRef)
    → committed_of (history ++ entry ∷ []) on ≡ (if commits on entry.change then Some entry.moment else committed_of history on)
committed_of-push history entry on = fold_push (λ before e. if commits on e.change then Some e.moment else before) None history entry

pub end_of-push : (history : History) (entry : Entry) (on : StreamRef) → end_of (history ++ entry ∷ []) on ≡ end_of history on + length (rows_onto on entry.change)
end_of-push history entry on =
    end_is_sum (history ++ entry ∷ []) on
    ∙ sum_by_push (λ e. length (rows_onto on e.change)) history entry
    ∙ ap (λ n. n + length (rows_onto on entry.change)) (sym (end_is_sum history on))

is_finalised-push : (history : History) (entry : Entry) (on : StreamRef) → is_finalised history on ≡ true → is_finalised (history ++ entry ∷ []) on ≡ true
is_finalised-push history entry on was = list_any-append (λ e. finalises on e.change) history (entry ∷ []) ∙ ap (λ b. b || (finalises on entry.change || false)) was

streams_of-push : (history : History) (entry : Entry) → streams_of history ≤ streams_of (history ++ entry ∷ [])
streams_of-push history entry = rw (sum_by_push (λ e. cond (is_create e.change) 1 0) history entry) (omega arith)

pub sources_of-push : (history : History) (entry : Entry) → sources_of (history ++ entry ∷ []) ≡ sources_of history ++ sources_shown history entry.change
sources_of-push history entry = gather-append sources_shown [] history (entry ∷ []) ∙ ap (λ xs. sources_of history ++ xs) (append-nil (sources_shown history entry.change))

has_stream-push : (history : History) (entry : Entry) (on : StreamRef) → has_stream history on ≡ true → has_stream (history ++ entry ∷ []) on ≡ true
has_stream-push history entry stream.Default there = refl
has_stream-push history entry (stream.Number n) there = let more = streams_of-push history entry in grind (arith, nat_tests)
has_stream-push history entry stream.Other there = absurd (cc)

-- the default stream is COMMITTED
pub kind_of-default : (history : History) (on : StreamRef) → is_default on ≡ true → kind_of history on ≡ kind.Committed
kind_of-default history stream.Default e = from history kind.Committed
  where
    stays : (before : StreamKind) (c : Change) → kind_after stream.Default before c ≡ before
    stays before (change.Create n new) = refl
    stays before (change.Append on offset rows bytes) = refl
    stays before (change.Flush on upto) = refl
    stays before (change.Finalise on) = refl
    stays before (change.Commit streams) = refl
    stays before (change.Session number at pred fields roots) = refl
    stays before (change.Split session node left right) = refl

    from : (history : History) (before : StreamKind) → fold (λ k e. kind_after stream.Default k e.change) before history ≡ before
    from [] before = refl
    from (entry ∷ more) before = ap (λ k. fold (λ k e. kind_after stream.Default k e.change) k more) (stays before entry.change) ∙ from more before
kind_of-default history (stream.Number n) e = absurd (cc)
kind_of-default history stream.Other e = absurd (cc)

-- How many rows are visible, by what is so of a stream.
abbrev shown_cases : Bool → Bool → Bool → ℕ → ℕ → ℕ
shown_cases at_once buffered committed end flushed = if at_once then end else (if buffered then flushed else (if committed then end else 0))

abbrev shown_now : ℕ → ℕ → ℕ
shown_now i shown = cond (nat_lt i shown) 1 0

shown_zero : (a b o : Bool) (end flushed : ℕ) → end ≡ 0 → flushed ≡ 0 → o ≡ false → shown_cases a b o end flushed ≡ 0
shown_zero true b o end flushed p q r = p
shown_zero false true o end flushed p q r = q
shown_zero false false true end flushed p q r = absurd (cc)
shown_zero false false false end flushed p q r = refl

unchanged : (history : History) (on : StreamRef) (i : ℕ)
    → 0 + shown_now i (shown_of history on) ≡ shown_now i (shown_by on (kind_of history on) (end_of history on + 0) (flushed_of history on) (committed_of history on))
unchanged history on i =
    zero-add (shown_now i (shown_of history on))
    ∙ ap (λ n. shown_now i (shown_by on (kind_of history on) n (flushed_of history on) (committed_of history on))) (sym (add-zero (end_of history on)))

unchanged_by : (history : History) (on : StreamRef) (i t : ℕ) → t ≡ 0
    → t + shown_now i (shown_of history on) ≡ shown_now i (shown_by on (kind_of history on) (end_of history on + 0) (flushed_of history on) (committed_of history on))
unchanged_by history on i t none = ap (λ n. n + shown_now i (shown_of history on)) none ∙ unchanged history on i

append_cases : (a b o : Bool) (end flushed n i t : ℕ) → o ≡ false → (a ≡ true → t ≡ cond (nat_le end i && nat_lt i (end + n)) 1 0) → (a ≡ false → t ≡ 0)
    → t + shown_now i (shown_cases a b o end flushed) ≡ shown_now i (shown_cases a b o (end + n) flushed)
append_cases true b o end flushed n i t unfinished adds none = let e : t ≡ cond (nat_le end i && nat_lt i (end + n)) 1 0 = adds refl in grind (arith, nat_tests)
append_cases false true o end flushed n i t unfinished adds none = ap (λ m. m + shown_now i flushed) (none refl) ∙ zero-add (shown_now i flushed)
append_cases false false true end flushed n i t unfinished adds none = absurd (cc)
append_cases false false false end flushed n i t unfinished adds none = ap (λ m. m + shown_now i 0) (none refl) ∙ zero-add (shown_now i 0)

flush_cases : (a b o : Bool) (end flushed upto i t : ℕ) → a ≡ false → b ≡ true → t + shown_now i flushed ≡ shown_now i upto
    → t + shown_now i (shown_cases a b o end flushed) ≡ shown_now i (shown_cases a b o (end + 0) upto)
flush_cases true b o end flushed upto i t p q e = absurd (cc)
flush_cases false false o end flushed upto i t p q e = absurd (cc)
flush_cases false true o end flushed upto i t p q e = e

commit_cases : (a b o : Bool) (end flushed i t : ℕ) → a ≡ false → b ≡ false → o ≡ false → t ≡ shown_now i end
    → t + shown_now i (shown_cases a b o end flushed) ≡ shown_now i (shown_cases a b true (end + 0) flushed)
commit_cases true b o end flushed i t p q r e = absurd (cc)
commit_cases false true o end flushed i t p q r e = absurd (cc)
commit_cases false false true end flushed i t p q r e = absurd (cc)
commit_cases false false false end flushed i t p q r e = grind (arith, nat_tests)

-- a BUFFERED or PENDING stream isn't visible at once
pub not_at_once : (history : History) (on : StreamRef) → is_committed_kind (kind_of history on) ≡ false → shows_at_once history on ≡ false
not_at_once history on other = either (is_default on) refl
  where
    either : (b : Bool) → is_default on ≡ b → (b || is_committed_kind (kind_of history on)) ≡ false
    either false e = other
    either true e = absurd (cc (ap is_committed_kind (kind_of-default history on e), other))

pub buffered_kind : (k : StreamKind) → is_buffered k ≡ true → is_committed_kind k ≡ false
buffered_kind kind.Committed e = absurd (cc)
buffered_kind kind.Pending e = refl
buffered_kind kind.Buffered e = refl

pub pending_kind : (k : StreamKind) → is_pending k ≡ true → (is_committed_kind k ≡ false) × (is_buffered k ≡ false)
pending_kind kind.Committed e = absurd (cc)
pending_kind kind.Pending e = (refl, refl)
pending_kind kind.Buffered e = absurd (cc)

abbrev code_cases : Bool → Bool → Bool → Option ℕ
code_cases pending committed finalised =
    if not pending then Some INVALID_STREAM_TYPE else (if committed then Some STREAM_ALREADY_COMMITTED else (if not finalised then Some INVALID_STREAM_STATE else None))

-- What is so of a stream that can be committed.
abbrev pub IsGood : Option StreamState → Type 0
IsGood found = (state : StreamState) × (found ≡ Some state) × (is_pending state.kind ≡ true) × (is_some state.committed ≡ false) × (state.finalised ≡ true)

pub good_of : (found : Option StreamState) → stream_code found ≡ None → IsGood found
good_of None e = absurd (cc)
good_of (Some state) e = go (is_pending state.kind) (is_some state.committed) state.finalised refl refl refl e
  where
    go : (p o f : Bool) → is_pending state.kind ≡ p → is_some state.committed ≡ o → state.finalised ≡ f
        → code_cases p o f ≡ None → IsGood (Some state)
    go false o f x y z e = absurd (cc)
    go true true f x y z e = absurd (cc)
    go true false false x y z e = absurd (cc)
    go true false true x y z e = (state, refl, x, y, z)

pub first_good : (n : ℕ) (code : Option ℕ) (errors : List StreamError) → cons_option (error_at n code) errors ≡ [] → (code ≡ None) × (errors ≡ [])
first_good n None errors e = (refl, e)
first_good n (Some code) errors e = absurd (cc)

pub each_good : (look : StreamRef → Option StreamState) (n : ℕ) (xs : List StreamRef) (on : StreamRef)
    → filter_map (λ item. error_at item.0 (stream_code (look item.1))) (enumerate_from n xs) ≡ [] → list_any (is_one_stream on) xs ≡ true → stream_code (look on) ≡ None
each_good look n [] on none among = absurd (cc)
each_good look n (x ∷ xs) on none among =
    let parts = first_good n (stream_code (look x)) (filter_map (λ item. error_at item.0 (stream_code (look item.1))) (enumerate_from (n + 1) xs)) none in
    either (is_one_stream on x) refl parts.0 (each_good look (n + 1) xs on parts.1) among
  where
    either : (b : Bool) → is_one_stream on x ≡ b → stream_code (look x) ≡ None → (list_any (is_one_stream on) xs ≡ true → stream_code (look on) ≡ None)
        → (b || list_any (is_one_stream on) xs) ≡ true → stream_code (look on) ≡ None
    either true here good later a = ap (λ y. stream_code (look y)) (one_stream on x here) ∙ good
    either false here good later a = later a

-- What a legal history keeps: a stream that isn't there has no rows, a committed stream is finalised, and the
-- visible rows of a stream stand once each among the sources.
pub record Keeps (history : History) : Type 0 where
  pub no_rows : (on : StreamRef) → has_stream history on ≡ false → end_of history on ≡ 0
  pub no_flush : (on : StreamRef) → has_stream history on ≡ false → flushed_of history on ≡ 0
  pub no_commit : (on : StreamRef) → has_stream history on ≡ false → is_some (committed_of history on) ≡ false
  pub closed : (on : StreamRef) → is_some (committed_of history on) ≡ true → is_finalised history on ≡ true
  pub once : (on : StreamRef) (i : ℕ) → times on i (sources_of history) ≡ shown_now i (shown_of history on)

abbrev shown_after : History → Change → ℤ → StreamRef → ℕ
shown_after history c moment on =
    shown_by on (kind_after on (kind_of history on) c) (end_of history on + length (rows_onto on c)) (flushed_after on (flushed_of history on) c)
    (if commits on c then Some moment else committed_of history on)

-- a commit makes all rows of its streams visible
commit_adds : (history : History) (streams : List StreamRef) (moment : ℤ) → names_twice streams ≡ false → stream_errors (λ s. state_of history s) streams ≡ []
    → (on : StreamRef) (i : ℕ) → times on i (flat_map (sources_in history) streams) + shown_now i (shown_of history on) ≡ shown_now i (shown_after history (change.Commit streams) moment on)
commit_adds history streams moment once good on i = either (list_any (is_one_stream on) streams) refl (times-streams history on i streams once)
  where
    either : (b : Bool) → list_any (is_one_stream on) streams ≡ b → times on i (flat_map (sources_in history) streams) ≡ cond (b && nat_lt i (end_of history on)) 1 0
        → times on i (flat_map (sources_in history) streams) + shown_now i (shown_of history on)
        ≡ shown_now i (shown_by on (kind_of history on) (end_of history on + 0) (flushed_of history on) (if b then Some moment else committed_of history on))
    either false e t = unchanged_by history on i (times on i (flat_map (sources_in history) streams)) t
    either true e t =
        let fine = good_of (state_of history on) (each_good (λ s. state_of history s) 0 streams on good e) in
        let is = (state_of-Some history on fine.0 fine.1).1 in
        let kinds = pending_kind (kind_of history on) (ap (λ st. is_pending st.kind) is ∙ fine.2) in
        commit_cases (shows_at_once history on) (is_buffered (kind_of history on)) (is_some (committed_of history on)) (end_of history on) (flushed_of history on) i
        (times on i (flat_map (sources_in history) streams)) (not_at_once history on kinds.0) kinds.1 (ap (λ st. is_some st.committed) is ∙ fine.3) t

-- a flush makes the rows from the old count up to the new one visible
flush_adds : (history : History) (s : StreamRef) (upto : ℕ) (moment : ℤ) → is_buffered (kind_of history s) ≡ true → flushed_of history s < upto → upto ≤ end_of history s
    → (on : StreamRef) (i : ℕ) → times on i (sources_shown history (change.Flush s upto)) + shown_now i (shown_of history on) ≡ shown_now i (shown_after history (change.Flush s upto) moment on)
flush_adds history s upto moment buffered rising within on i =
    either (is_one_stream on s) refl (times-between on i s (flushed_of history s) upto (end_of history s) (omega arith) within)
  where
    either : (b : Bool) → is_one_stream on s ≡ b
        → times on i (sources_shown history (change.Flush s upto)) + cond (b && nat_lt i (flushed_of history s)) 1 0 ≡ cond (b && nat_lt i upto) 1 0
        → times on i (sources_shown history (change.Flush s upto)) + shown_now i (shown_of history on)
        ≡ shown_now i (shown_by on (kind_of history on) (end_of history on + 0) (if b then upto else flushed_of history on) (committed_of history on))
    either false e t = unchanged_by history on i (times on i (sources_shown history (change.Flush s upto))) (omega arith)
    either true e t =
        let same : on ≡ s = one_stream on s e in
        let kinds : is_buffered (kind_of history on) ≡ true = rw same buffered in
        let count : times on i (sources_shown history (change.Flush s upto)) + shown_now i (flushed_of history on) ≡ shown_now i upto = rw (ap (flushed_of history) same) t in
        flush_cases (shows_at_once history on) (is_buffered (kind_of history on)) (is_some (committed_of history on)) (end_of history on) (flushed_of history on) upto i
        (times on i (sources_shown history (change.Flush s upto))) (not_at_once history on (buffered_kind (kind_of history on) kinds)) kinds count

-- an append to a stream that shows its rows at once makes them visible
append_adds : (history : History) (s : StreamRef) (at : ℕ) (rows : List Row) (bytes : ℕ) (moment : ℤ) → is_some (committed_of history s) ≡ false
    → (on : StreamRef) (i : ℕ) → times on i (sources_shown history (change.Append s at rows bytes)) + shown_now i (shown_of history on) ≡ shown_now i (shown_after history (change.Append s at rows bytes) moment on)
append_adds history s at rows bytes moment uncommitted on i = either (is_one_stream on s) refl
  where
    added : Bool → List Source
    added at_once = if at_once then sources_from s (end_of history s) (length rows) else []

    none : (a : Bool) → is_one_stream on s ≡ false → times on i (added a) ≡ 0
    none true e = times-other history on i s (end_of history s) (length rows) e
    none false e = refl

    either : (b : Bool) → is_one_stream on s ≡ b
        → times on i (added (shows_at_once history s)) + shown_now i (shown_of history on)
        ≡ shown_now i (shown_by on (kind_of history on) (end_of history on + length (if b then rows else [])) (flushed_of history on) (committed_of history on))
    either false e = unchanged_by history on i (times on i (added (shows_at_once history s))) (none (shows_at_once history s) e)
    either true e =
        let same : on ≡ s = one_stream on s e in
        let closed : is_some (committed_of history on) ≡ false = rw same uncommitted in
        append_cases (shows_at_once history on) (is_buffered (kind_of history on)) (is_some (committed_of history on)) (end_of history on) (flushed_of history on) (length rows) i
        (times on i (added (shows_at_once history s))) closed
        (λ now.
        ap (λ a. times on i (added a)) (ap (shows_at_once history) (sym same) ∙ now)
        ∙ times-from on i s (end_of history s) (length rows)
        ∙ ap (λ b. cond (b && (nat_le (end_of history s) i && nat_lt i (end_of history s + length rows))) 1 0) e
        ∙ ap (λ n. cond (nat_le n i && nat_lt i (n + length rows)) 1 0) (ap (end_of history) (sym same)))
        (λ later. ap (λ a. times on i (added a)) (ap (shows_at_once history) (sym same) ∙ later))

-- a new stream has no rows
create_adds : (history : History) (number : ℕ) (new : StreamKind) (moment : ℤ) → Keeps history → number ≡ streams_of history + 1
    → (on : StreamRef) (i : ℕ) → 0 + shown_now i (shown_of history on) ≡ shown_now i (shown_after history (change.Create number new) moment on)
create_adds history number new moment keeps next on i = either (is_one_stream on (stream.Number number)) refl
  where
    absent : has_stream history (stream.Number number) ≡ false
    absent = grind (arith, nat_tests)

    either : (b : Bool) → is_one_stream on (stream.Number number) ≡ b
        → 0 + shown_now i (shown_of history on)
        ≡ shown_now i (shown_by on (if b then new else kind_of history on) (end_of history on + 0) (flushed_of history on) (committed_of history on))
    either false e = unchanged history on i
    either true e =
        let gone : has_stream history on ≡ false = ap (has_stream history) (one_stream on (stream.Number number) e) ∙ absent in
        let was : shown_of history on ≡ 0 =
        shown_zero (shows_at_once history on) (is_buffered (kind_of history on)) (is_some (committed_of history on)) (end_of history on) (flushed_of history on)
        (keeps.no_rows on gone) (keeps.no_flush on gone) (keeps.no_commit on gone) in
        let stays : shown_by on new (end_of history on + 0) (flushed_of history on) (committed_of history on) ≡ 0 =
        shown_zero (is_default on || is_committed_kind new) (is_buffered new) (is_some (committed_of history on)) (end_of history on + 0) (flushed_of history on)
        (add-zero (end_of history on) ∙ keeps.no_rows on gone) (keeps.no_flush on gone) (keeps.no_commit on gone) in
        zero-add (shown_now i (shown_of history on)) ∙ ap (shown_now i) (was ∙ sym stays)

-- what a change adds to the sources is what it adds to the visible rows of each stream
adds : (columns : ℕ) (history : History) (caller : ℕ) (c : Change) (moment : ℤ) → Keeps history → Makes (facts_of columns history caller) (look_of history) c
    → (on : StreamRef) (i : ℕ) → times on i (sources_shown history c) + shown_now i (shown_of history on) ≡ shown_now i (shown_after history c moment on)
adds columns history caller (change.Create number new) moment keeps makes on i = create_adds history number new moment keeps makes.next on i
adds columns history caller (change.Append s at rows bytes) moment keeps makes on i =
    append_adds history s at rows bytes moment (unless_closed (is_some (committed_of history s)) refl) on i
  where
    is : state_in history s ≡ makes.state
    is = (state_of-Some history s makes.state makes.there).1

    unless_closed : (b : Bool) → is_some (committed_of history s) ≡ b → is_some (committed_of history s) ≡ false
    unless_closed false e = e
    unless_closed true e = absurd (cc (keeps.closed s e, ap (λ st. st.finalised) is, makes.unfinished))
adds columns history caller (change.Flush s upto) moment keeps makes on i =
    let is = (state_of-Some history s makes.state makes.there).1 in
    let flushed : flushed_of history s ≡ makes.state.flushed = ap (λ st. st.flushed) is in
    let rows : end_of history s ≡ makes.state.rows = ap (λ st. st.rows) is in
    let rising : makes.state.flushed < upto = makes.rising in
    let within : upto ≤ makes.state.rows = makes.within in
    flush_adds history s upto moment (ap (λ st. is_buffered st.kind) is ∙ makes.buffered) (omega arith) (omega arith) on i
adds columns history caller (change.Finalise s) moment keeps makes on i = unchanged history on i
adds columns history caller (change.Commit streams) moment keeps makes on i = commit_adds history streams moment makes.once makes.good on i
adds columns history caller (change.Session number at pred fields roots) moment keeps makes on i = unchanged history on i
adds columns history caller (change.Split session node left right) moment keeps makes on i = unchanged history on i

-- a change leaves the streams alone that aren't there
record IsUntouched (history : History) (c : Change) (on : StreamRef) : Type 0 where
  rows : length (rows_onto on c) ≡ 0
  flushed : flushed_after on (flushed_of history on) c ≡ flushed_of history on
  committed : commits on c ≡ false

there_is : (history : History) (s : StreamRef) (state : StreamState) (on : StreamRef) → state_of history s ≡ Some state → has_stream history on ≡ false → is_one_stream on s ≡ false
there_is history s state on there gone = either (is_one_stream on s) refl
  where
    either : (b : Bool) → is_one_stream on s ≡ b → b ≡ false
    either false e = refl
    either true e = absurd (cc ((state_of-Some history s state there).0, ap (has_stream history) (one_stream on s e), gone))

untouched : (columns : ℕ) (history : History) (caller : ℕ) (c : Change) → Makes (facts_of columns history caller) (look_of history) c
    → (on : StreamRef) → has_stream history on ≡ false → IsUntouched history c on
untouched columns history caller (change.Create number new) makes on gone = record { rows = refl; flushed = refl; committed = refl }
untouched columns history caller (change.Append s at rows bytes) makes on gone = record {
  rows = ap (λ b. length (if b then rows else [])) (there_is history s makes.state on makes.there gone);
  flushed = refl;
  committed = refl;
}
untouched columns history caller (change.Flush s upto) makes on gone = record {
  rows = refl;
  flushed = ap (λ b. if b then upto else flushed_of history on) (there_is history s makes.state on makes.there gone);
  committed = refl;
}
untouched columns history caller (change.Finalise s) makes on gone = record { rows = refl; flushed = refl; committed = refl }
untouched columns history caller (change.Session number at pred fields roots) makes on gone = record { rows = refl; flushed = refl; committed = refl }
untouched columns history caller (change.Split session node left right) makes on gone = record { rows = refl; flushed = refl; committed = refl }
untouched columns history caller (change.Commit streams) makes on gone = record { rows = refl; flushed = refl; committed = either (list_any (is_one_stream on) streams) refl }
  where
    either : (b : Bool) → list_any (is_one_stream on) streams ≡ b → b ≡ false
    either false e = refl
    either true e =
        let fine = good_of (state_of history on) (each_good (λ s. state_of history s) 0 streams on makes.good e) in
        absurd (cc ((state_of-Some history on fine.0 fine.1).0, gone))

-- a stream that is committed is finalised
closes : (columns : ℕ) (history : History) (caller : ℕ) (c : Change) → Makes (facts_of columns history caller) (look_of history) c
    → (on : StreamRef) → commits on c ≡ true → is_finalised history on ≡ true
closes columns history caller (change.Create number new) makes on e = absurd (cc)
closes columns history caller (change.Append s at rows bytes) makes on e = absurd (cc)
closes columns history caller (change.Flush s upto) makes on e = absurd (cc)
closes columns history caller (change.Finalise s) makes on e = absurd (cc)
closes columns history caller (change.Session number at pred fields roots) makes on e = absurd (cc)
closes columns history caller (change.Split session node left right) makes on e = absurd (cc)
closes columns history caller (change.Commit streams) makes on e =
    let fine = good_of (state_of history on) (each_good (λ s. state_of history s) 0 streams on makes.good e) in
    ap (λ st. st.finalised) (state_of-Some history on fine.0 fine.1).1 ∙ fine.4

shown_of-push : (history : History) (entry : Entry) (on : StreamRef) → shown_of (history ++ entry ∷ []) on ≡ shown_after history entry.change entry.moment on
shown_of-push history entry on =
    let after = history ++ entry ∷ [] in
    ap (λ k. shown_by on k (end_of after on) (flushed_of after on) (committed_of after on)) (kind_of-push history entry on)
    ∙ ap (λ n. shown_by on (kind_after on (kind_of history on) entry.change) n (flushed_of after on) (committed_of after on)) (end_of-push history entry on)
    ∙ ap (λ n. shown_by on (kind_after on (kind_of history on) entry.change) (end_of history on + length (rows_onto on entry.change)) n (committed_of after on)) (flushed_of-push history entry on)
    ∙ ap (λ o. shown_by on (kind_after on (kind_of history on) entry.change) (end_of history on + length (rows_onto on entry.change)) (flushed_after on (flushed_of history on) entry.change) o) (committed_of-push history entry on)

Keeps-push : (columns : ℕ) (history : History) (entry : Entry) → Keeps history → Makes (facts_of columns history entry.caller) (look_of history) entry.change
    → Keeps (history ++ entry ∷ [])
Keeps-push columns history entry keeps makes = record {
  no_rows = λ on gone.
      let none = (untouched columns history entry.caller entry.change makes on (was on gone)).rows in
      let before = keeps.no_rows on (was on gone) in
      end_of-push history entry on ∙ omega arith;
  no_flush = λ on gone.
      flushed_of-push history entry on ∙ (untouched columns history entry.caller entry.change makes on (was on gone)).flushed ∙ keeps.no_flush on (was on gone);
  no_commit = λ on gone.
      ap is_some (committed_of-push history entry on)
      ∙ ap (λ b. is_some (if b then Some entry.moment else committed_of history on)) (untouched columns history entry.caller entry.change makes on (was on gone)).committed
      ∙ keeps.no_commit on (was on gone);
  closed = λ on some. is_finalised-push history entry on (closed_by on (commits on entry.change) refl (sym (ap is_some (committed_of-push history entry on)) ∙ some));
  once = λ on i.
      let before = keeps.once on i in
      let more = adds columns history entry.caller entry.change entry.moment keeps makes on i in
      let both = ap (times on i) (sources_of-push history entry) ∙ times-append on i (sources_of history) (sources_shown history entry.change) in
      both ∙ joined (times on i (sources_of history)) (times on i (sources_shown history entry.change)) before more ∙ ap (shown_now i) (sym (shown_of-push history entry on));
}
  where
    was : (on : StreamRef) → has_stream (history ++ entry ∷ []) on ≡ false → has_stream history on ≡ false
    was on gone = either (has_stream history on) refl
      where
        either : (b : Bool) → has_stream history on ≡ b → b ≡ false
        either false e = refl
        either true e = absurd (cc (has_stream-push history entry on e, gone))

    closed_by : (on : StreamRef) (b : Bool) → commits on entry.change ≡ b → is_some (if b then Some entry.moment else committed_of history on) ≡ true → is_finalised history on ≡ true
    closed_by on true e some = closes columns history entry.caller entry.change makes on e
    closed_by on false e some = keeps.closed on some

    joined : (a b : ℕ) {c d : ℕ} → a ≡ c → b + c ≡ d → a + b ≡ d
    joined a b p q = omega arith

Keeps-empty : Keeps []
Keeps-empty = record {
  no_rows = λ on gone. refl;
  no_flush = λ on gone. refl;
  no_commit = λ on gone. refl;
  closed = λ on some. absurd (cc (some));
  once = λ on i. none i ∙ ap (shown_now i) (sym (shown_zero (shows_at_once [] on) false false 0 0 refl refl refl));
}
  where
    none : (i : ℕ) → ◌≡◌ {A = ℕ} 0 (shown_now i 0)
    none i = grind (arith, nat_tests)

Keeps-more : (columns : List Column) (before more : History) → Keeps before → EachIsAccepted columns before more → Keeps (before ++ more)
Keeps-more columns before [] keeps each = rw (append-nil before) keeps
Keeps-more columns before (entry ∷ more) keeps each =
    let made = answer_by-Accept (facts_of (length columns) before entry.caller) (look_of before) each.0.asked each.0.reading entry each.0.reply each.0.answered in
    rw (← append_assoc before (entry ∷ []) more) (
    Keeps-more columns (before ++ entry ∷ []) more (Keeps-push (length columns) before entry keeps made.makes) each.1)

pub exactly : SourcesStandOnce
exactly columns history legal on offset = (Keeps-more columns [] history Keeps-empty legal).once on offset

pub at_most : NoSourceTwice
at_most columns history legal on offset = rw (exactly columns history legal on offset) (one (nat_lt offset (shown_of history on)))
  where
    one : (b : Bool) → cond b 1 0 ≤ 1
    one true = omega arith
    one false = omega arith
