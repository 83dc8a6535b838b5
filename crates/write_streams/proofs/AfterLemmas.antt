-- What one entry more says of a stream.
use Rattle.std.proofs.Common.{◌≡◌, ℕ, ◌+◌, ℤ, Bool, true, false, ◌||◌, cond, List, [], ◌∷◌, ◌++◌, length, None, Some, refl, sym, ap, ◌∙◌, add-zero, zero-add}
use Rattle.std.specs.Prelude.{Option, if◌then◌else◌}
use Rattle.std.specs.List.{list_any}
use Rattle.std.proofs.lemmas.List.Sums.{fold_push, sum_by_push}
use Rattle.std.proofs.lemmas.List.Folds.{list_any-append}
use Rattle.table_model.specs.declared.entries.Entry.{Entry}
use Rattle.table_model.specs.declared.entries.Change.{Change}
use Rattle.table_model.specs.declared.entries.Change.TheVariants as change
use Rattle.table_model.specs.declared.streams.StreamKind.{StreamKind}
use Rattle.table_model.specs.declared.streams.StreamKind.TheVariants as kind
use Rattle.table_model.specs.declared.streams.StreamRef.{StreamRef}
use Rattle.table_model.specs.declared.streams.StreamRef.TheVariants as stream
use Rattle.table_model.specs.declared.streams.StreamState.{StreamState}
use Rattle.table_model.specs.Streams.{is_one_stream}
use Rattle.table_model.specs.History.{History, is_create, streams_of}
use Rattle.table_model.specs.Content.{rows_onto}
use Rattle.table_model.specs.Facts.{kind_after, creates, commits, finalises, created_of, is_finalised, flushed_after, state_in}
use Rattle.table_model.proofs.SourceLemmas.{kind_of-push, flushed_of-push, committed_of-push, end_of-push}
use Rattle.write_streams.specs.Book.{unused, with_rows, with_flushed, with_finalised, with_committed}
use Rattle.write_streams.specs.Stands.{IsAppend, IsRead}

-- the state of a stream after a change at a moment
abbrev pub after : StreamRef → Change → ℤ → StreamState → StreamState
after on c moment s = record {
  kind = kind_after on s.kind c;
  created = if creates on c then Some moment else s.created;
  committed = if commits on c then Some moment else s.committed;
  rows = s.rows + length (rows_onto on c);
  flushed = flushed_after on s.flushed c;
  finalised = s.finalised || finalises on c;
}

or_false : (b : Bool) → (b || false) ≡ b
or_false true = refl
or_false false = refl

or_true : (b : Bool) → (b || true) ≡ true
or_true true = refl
or_true false = refl

same_state : {k l : StreamKind} {c d o p : Option ℤ} {r q f g : ℕ} {a b : Bool} → k ≡ l → c ≡ d → o ≡ p → r ≡ q → f ≡ g → a ≡ b
    → ◌≡◌ {A = StreamState} (record { kind = k; created = c; committed = o; rows = r; flushed = f; finalised = a })
    (record { kind = l; created = d; committed = p; rows = q; flushed = g; finalised = b })
same_state u v w x y z = cc

created_of-push : (history : History) (entry : Entry) (on : StreamRef)
    → created_of (history ++ entry ∷ []) on ≡ (if creates on entry.change then Some entry.moment else created_of history on)
created_of-push history entry on = fold_push (λ before e. if creates on e.change then Some e.moment else before) None history entry

is_finalised-push : (history : History) (entry : Entry) (on : StreamRef) → is_finalised (history ++ entry ∷ []) on ≡ (is_finalised history on || finalises on entry.change)
is_finalised-push history entry on =
    list_any-append (λ e. finalises on e.change) history (entry ∷ [])
    ∙ ap (λ b. is_finalised history on || b) (or_false (finalises on entry.change))

pub state_in-push : (history : History) (entry : Entry) (on : StreamRef) → state_in (history ++ entry ∷ []) on ≡ after on entry.change entry.moment (state_in history on)
state_in-push history entry on =
    same_state (kind_of-push history entry on) (created_of-push history entry on) (committed_of-push history entry on) (end_of-push history entry on)
    (flushed_of-push history entry on) (is_finalised-push history entry on)

pub streams_of-push : (history : History) (entry : Entry) → streams_of (history ++ entry ∷ []) ≡ streams_of history + cond (is_create entry.change) 1 0
streams_of-push history entry = sum_by_push (λ e. cond (is_create e.change) 1 0) history entry

-- Each change, stream by stream.
pub after-append : (on to : StreamRef) (rows : ℕ) (c : Change) (moment : ℤ) (s : StreamState) → IsAppend to rows c
    → after on c moment s ≡ (if is_one_stream on to then with_rows rows s else s)
after-append on to count (change.Append name offset rows bytes) moment s is =
    ap (λ n. after on (change.Append n offset rows bytes) moment s) is.0 ∙ either (is_one_stream on to)
  where
    either : (b : Bool)
        → ◌≡◌ {A = StreamState} (record { kind = s.kind; created = s.created; committed = s.committed; rows = s.rows + length (if b then rows else []); flushed = s.flushed; finalised = s.finalised || false })
        (if b then with_rows count s else s)
    either true = same_state refl refl refl (ap (λ n. s.rows + n) is.1) refl (or_false s.finalised)
    either false = same_state refl refl refl (add-zero s.rows) refl (or_false s.finalised)
after-append on to count (change.Create number k) moment s is = absurd is
after-append on to count (change.Flush name upto) moment s is = absurd is
after-append on to count (change.Finalise name) moment s is = absurd is
after-append on to count (change.Commit streams) moment s is = absurd is
after-append on to count (change.Session number at pred fields roots) moment s is = absurd is
after-append on to count (change.Split session node left right) moment s is = absurd is

pub after-flush : (on to : StreamRef) (upto : ℕ) (moment : ℤ) (s : StreamState)
    → after on (change.Flush to upto) moment s ≡ (if is_one_stream on to then with_flushed upto s else s)
after-flush on to upto moment s = either (is_one_stream on to)
  where
    either : (b : Bool)
        → ◌≡◌ {A = StreamState} (record { kind = s.kind; created = s.created; committed = s.committed; rows = s.rows + 0; flushed = if b then upto else s.flushed; finalised = s.finalised || false })
        (if b then with_flushed upto s else s)
    either true = same_state refl refl refl (add-zero s.rows) refl (or_false s.finalised)
    either false = same_state refl refl refl (add-zero s.rows) refl (or_false s.finalised)

pub after-finalise : (on to : StreamRef) (moment : ℤ) (s : StreamState)
    → after on (change.Finalise to) moment s ≡ (if is_one_stream on to then with_finalised s else s)
after-finalise on to moment s = either (is_one_stream on to)
  where
    either : (b : Bool)
        → ◌≡◌ {A = StreamState} (record { kind = s.kind; created = s.created; committed = s.committed; rows = s.rows + 0; flushed = s.flushed; finalised = s.finalised || b })
        (if b then with_finalised s else s)
    either true = same_state refl refl refl (add-zero s.rows) refl (or_true s.finalised)
    either false = same_state refl refl refl (add-zero s.rows) refl (or_false s.finalised)

pub after-commit : (on : StreamRef) (streams : List StreamRef) (moment : ℤ) (s : StreamState)
    → after on (change.Commit streams) moment s ≡ (if list_any (is_one_stream on) streams then with_committed moment s else s)
after-commit on streams moment s = either (list_any (is_one_stream on) streams)
  where
    either : (b : Bool)
        → ◌≡◌ {A = StreamState} (record { kind = s.kind; created = s.created; committed = if b then Some moment else s.committed; rows = s.rows + 0; flushed = s.flushed; finalised = s.finalised || false })
        (if b then with_committed moment s else s)
    either true = same_state refl refl refl (add-zero s.rows) refl (or_false s.finalised)
    either false = same_state refl refl refl (add-zero s.rows) refl (or_false s.finalised)

pub after-create-other : (on : StreamRef) (number : ℕ) (k : StreamKind) (moment : ℤ) (s : StreamState) → is_one_stream on (stream.Number number) ≡ false
    → after on (change.Create number k) moment s ≡ s
after-create-other on number k moment s other = either (is_one_stream on (stream.Number number)) other
  where
    either : (b : Bool) → b ≡ false
        → ◌≡◌ {A = StreamState} (record { kind = if b then k else s.kind; created = if b then Some moment else s.created; committed = s.committed; rows = s.rows + 0; flushed = s.flushed; finalised = s.finalised || false }) s
    either true e = absurd (cc)
    either false e = same_state refl refl refl (add-zero s.rows) refl (or_false s.finalised)

pub after-create : (on : StreamRef) (number : ℕ) (k : StreamKind) (moment : ℤ) → is_one_stream on (stream.Number number) ≡ true
    → after on (change.Create number k) moment (unused kind.Committed None) ≡ unused k (Some moment)
after-create on number k moment here = either (is_one_stream on (stream.Number number)) here
  where
    either : (b : Bool) → b ≡ true
        → ◌≡◌ {A = StreamState} (record { kind = if b then k else kind.Committed; created = if b then Some moment else None; committed = None; rows = 0 + 0; flushed = 0; finalised = false || false }) (unused k (Some moment))
    either false e = absurd (cc)
    either true e = refl

pub after-read : (on : StreamRef) (c : Change) (moment : ℤ) (s : StreamState) → IsRead c → after on c moment s ≡ s
after-read on (change.Session number at pred fields roots) moment s is = same_state refl refl refl (add-zero s.rows) refl (or_false s.finalised)
after-read on (change.Split session node left right) moment s is = same_state refl refl refl (add-zero s.rows) refl (or_false s.finalised)
after-read on (change.Append to offset rows bytes) moment s is = absurd is
after-read on (change.Create number k) moment s is = absurd is
after-read on (change.Flush to upto) moment s is = absurd is
after-read on (change.Finalise to) moment s is = absurd is
after-read on (change.Commit streams) moment s is = absurd is
