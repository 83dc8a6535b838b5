-- All that a table shows, and all that its sessions keep, fits its columns.
use Rattle.std.proofs.Common.{ℕ, Bool, true, false, List, [], ◌∷◌, ◌++◌, take, None, Some, subst}
use Rattle.std.specs.Prelude.{Option, ◌==◌, fold, All, if◌then◌else◌}
use Rattle.std.specs.List.{flat_map}
use Rattle.std.specs.Option.{option_map}
use Rattle.std.proofs.lemmas.List.Elements.{All-nil, All-head, All-tail, All-append, All-push, All-take, All-drop}
use Rattle.column_types.specs.declared.column.Column.{Column}
use Rattle.column_types.specs.Row.{Fits}
use Rattle.column_types.specs.Typed.{IsTyped}
use Rattle.column_types.specs.Fields.{IsMadeFor}
use Rattle.table_model.specs.declared.entries.Entry.{Entry}
use Rattle.table_model.specs.declared.entries.Change.{Change}
use Rattle.table_model.specs.declared.entries.Change.TheVariants as change
use Rattle.table_model.specs.declared.streams.StreamRef.{StreamRef}
use Rattle.table_model.specs.Streams.{is_one_stream}
use Rattle.table_model.specs.History.{History}
use Rattle.table_model.specs.Content.{rows_onto, content_of}
use Rattle.table_model.specs.Facts.{flushed_of}
use Rattle.table_model.specs.Visible.{gather, rows_shown, shows_at_once}
use Rattle.table_model.specs.Sessions.{Opened, opened_after, session_of, split_at}
use Rattle.table_model.specs.Fits.{ChangeFits, EachFits}
use Rattle.table_model.specs.Laws.{VisibleRowsFit, SessionsFit}

all-flat_map : {X Y : Type 0} (P : Y → Type 0) (f : X → List Y) (xs : List X) → ((x : X) → All P (f x)) → All P (flat_map f xs)
all-flat_map P f [] each = All-nil P
all-flat_map P f (x ∷ xs) each = All-append P (f x) (flat_map f xs) (each x) (all-flat_map P f xs each)

all-if : {X : Type 0} (P : X → Type 0) (b : Bool) (xs : List X) → All P xs → All P (if b then xs else [])
all-if P true xs all = all
all-if P false xs all = All-nil P

onto_fits : (columns : List Column) (on : StreamRef) (c : Change) → ChangeFits columns c → All (Fits columns) (rows_onto on c)
onto_fits columns on (change.Append to offset rows bytes) fits = all-if (Fits columns) (is_one_stream on to) rows fits.0
onto_fits columns on (change.Create number kind) fits = All-nil (Fits columns)
onto_fits columns on (change.Flush to upto) fits = All-nil (Fits columns)
onto_fits columns on (change.Finalise to) fits = All-nil (Fits columns)
onto_fits columns on (change.Commit streams) fits = All-nil (Fits columns)
onto_fits columns on (change.Session number at pred fields roots) fits = All-nil (Fits columns)
onto_fits columns on (change.Split session node left right) fits = All-nil (Fits columns)

content_fits : (columns : List Column) (history : History) (on : StreamRef) → EachFits columns history → All (Fits columns) (content_of history on)
content_fits columns [] on each = All-nil (Fits columns)
content_fits columns (entry ∷ history) on each =
    All-append (Fits columns) (rows_onto on entry.change) (content_of history on)
    (onto_fits columns on entry.change (All-head (λ e. ChangeFits columns e.change) entry history each))
    (content_fits columns history on (All-tail (λ e. ChangeFits columns e.change) entry history each))

shown_fits : (columns : List Column) (before : History) (c : Change) → EachFits columns before → ChangeFits columns c → All (Fits columns) (rows_shown before c)
shown_fits columns before (change.Append to offset rows bytes) each fits = all-if (Fits columns) (shows_at_once before to) rows fits.0
shown_fits columns before (change.Flush to upto) each fits =
    All-drop (Fits columns) (flushed_of before to) (take upto (content_of before to)) (
    All-take (Fits columns) upto (content_of before to) (content_fits columns before to each))
shown_fits columns before (change.Commit streams) each fits = all-flat_map (Fits columns) (content_of before) streams (λ on. content_fits columns before on each)
shown_fits columns before (change.Create number kind) each fits = All-nil (Fits columns)
shown_fits columns before (change.Finalise to) each fits = All-nil (Fits columns)
shown_fits columns before (change.Session number at pred fields roots) each fits = All-nil (Fits columns)
shown_fits columns before (change.Split session node left right) each fits = All-nil (Fits columns)

gather_fits : (columns : List Column) (before history : History) → EachFits columns before → EachFits columns history → All (Fits columns) (gather rows_shown before history)
gather_fits columns before [] early each = All-nil (Fits columns)
gather_fits columns before (entry ∷ history) early each =
    let here = All-head (λ e. ChangeFits columns e.change) entry history each in
    All-append (Fits columns) (rows_shown before entry.change) (gather rows_shown (before ++ entry ∷ []) history)
    (shown_fits columns before entry.change early here)
    (gather_fits columns (before ++ entry ∷ []) history (All-push (λ e. ChangeFits columns e.change) before entry early here)
    (All-tail (λ e. ChangeFits columns e.change) entry history each))

pub visible_fits : VisibleRowsFit
visible_fits columns history each = gather_fits columns [] history (All-nil (λ e. ChangeFits columns e.change)) each

-- what is so of a session, if there is one
abbrev OpenedFits : List Column → Option Opened → Type 0
OpenedFits columns None = Unit {0}
OpenedFits columns (Some session) = IsTyped columns session.pred × IsMadeFor columns session.fields

opened_fits : (columns : List Column) (number : ℕ) (before : Option Opened) (entry : Entry) → OpenedFits columns before → ChangeFits columns entry.change
    → OpenedFits columns (opened_after number before entry.moment entry.change)
opened_fits columns number before entry = by_change entry.change
  where
    begins : (b : Bool) (new : Opened) → OpenedFits columns before → OpenedFits columns (Some new) → OpenedFits columns (if b then Some new else before)
    begins true new was is = is
    begins false new was is = was

    splits : (b : Bool) (node : ℕ) (session : Option Opened) → OpenedFits columns session → OpenedFits columns (if b then option_map (split_at node) session else session)
    splits true node None was = tt
    splits true node (Some session) was = was
    splits false node session was = was

    by_change : (c : Change) → OpenedFits columns before → ChangeFits columns c → OpenedFits columns (opened_after number before entry.moment c)
    by_change (change.Session session at pred fields roots) was fits = begins (session == number) _ was fits
    by_change (change.Split session node left right) was fits = splits (session == number) node before was
    by_change (change.Append to offset rows bytes) was fits = was
    by_change (change.Create stream kind) was fits = was
    by_change (change.Flush to upto) was fits = was
    by_change (change.Finalise to) was fits = was
    by_change (change.Commit streams) was fits = was

fold_fits : (columns : List Column) (number : ℕ) (before : Option Opened) (history : History) → OpenedFits columns before → EachFits columns history
    → OpenedFits columns (fold (λ o entry. opened_after number o entry.moment entry.change) before history)
fold_fits columns number before [] was each = was
fold_fits columns number before (entry ∷ history) was each =
    fold_fits columns number (opened_after number before entry.moment entry.change) history
    (opened_fits columns number before entry was (All-head (λ e. ChangeFits columns e.change) entry history each))
    (All-tail (λ e. ChangeFits columns e.change) entry history each)

session_fits : (columns : List Column) (history : History) (number : ℕ) → EachFits columns history → OpenedFits columns (session_of history number)
unfolding session_of
session_fits columns history number each = fold_fits columns number None history tt each

pub sessions_fit : SessionsFit
sessions_fit columns history number session each there = subst (OpenedFits columns) there (session_fits columns history number each)
