-- A book that stands for a history stands, after a change, for the history with the change's entry.
use Rattle.std.proofs.Common.{◌≡◌, ℕ, ◌+◌, ◌-◌, ◌<◌, ◌≤◌, ℤ, Bool, true, false, ◌&&◌, cond, List, [], ◌∷◌, ◌++◌, length, take, None, Some, refl, sym, ap, ◌∙◌, subst, arith, add-zero}
use Rattle.std.specs.Prelude.{Option, nat_lt, nat_le, ◌==◌, if◌then◌else◌, IsSome, is_some}
use Rattle.std.specs.List.{list_any, slice_get}
use Rattle.std.specs.Option.{option_map}
use Rattle.std.proofs.lemmas.Bool.{eqb-true}
use Rattle.std.proofs.lemmas.Bool.Decides.{nat_tests}
use Rattle.std.proofs.lemmas.List.{length_push, take_all}
use Rattle.table_model.specs.declared.entries.Entry.{Entry}
use Rattle.table_model.specs.declared.entries.Change.{Change}
use Rattle.table_model.specs.declared.entries.Change.TheVariants as change
use Rattle.table_model.specs.declared.streams.StreamKind.{StreamKind}
use Rattle.table_model.specs.declared.streams.StreamKind.TheVariants as kind
use Rattle.table_model.specs.declared.streams.StreamRef.{StreamRef}
use Rattle.table_model.specs.declared.streams.StreamRef.TheVariants as stream
use Rattle.table_model.specs.declared.streams.StreamState.{StreamState}
use Rattle.table_model.specs.Streams.{is_one_stream}
use Rattle.table_model.specs.History.{History, is_create, streams_of}
use Rattle.table_model.specs.Facts.{has_stream, state_in, state_of}
use Rattle.table_model.specs.Checks.{stream_errors}
use Rattle.table_model.proofs.SourceLemmas.{one_stream, each_good, good_of}
use Rattle.write_streams.specs.Book.{Book, find, unused, empty_book, Changes, with_rows, with_flushed, with_finalised, with_committed}
use Rattle.write_streams.specs.Stands.{Stands, IsAppend, IsRead, ReadsKeepBooks}
use Rattle.write_streams.proofs.BookLemmas.{slice_get-push}
use Rattle.write_streams.proofs.AfterLemmas.{after, state_in-push, streams_of-push, after-append, after-flush, after-finalise, after-commit, after-create, after-create-other, after-read}

pub Stands-empty : Stands empty_book []
Stands-empty = record {
  found = found;
  count = refl;
  fresh = λ number late. refl;
}
  where
    none : (number : ℕ) (state : StreamState) → (if nat_lt 0 number then None else None) ≡ (if nat_le 1 number && nat_le number 0 then Some state else None)
    none number state = no_number (nat_lt 0 number) (nat_le 1 number && nat_le number 0) (grind (arith, nat_tests))
      where
        no_number : (a b : Bool) → b ≡ false → (if a then None else None) ≡ (if b then Some state else None)
        no_number true b e = rw e refl
        no_number false b e = rw e refl

    found : (on : StreamRef) → find empty_book on ≡ state_of [] on
    found stream.Default = refl
    found (stream.Number number) = none number (state_in [] (stream.Number number))
    found stream.Other = refl

-- No stream has a number that comes later.
none_there : (history : History) (number : ℕ) → streams_of history < number → state_of history (stream.Number number) ≡ None
none_there history number late =
    let gone : (nat_le 1 number && nat_le number (streams_of history)) ≡ false = grind (arith, nat_tests) in
    ap (λ b. if b then Some (state_in history (stream.Number number)) else None) gone

late_other : (book : Book) (history : History) (s : StreamRef) (number : ℕ) → Stands book history → IsSome (find book s) → streams_of history < number
    → is_one_stream (stream.Number number) s ≡ false
late_other book history s number stands there late = either (is_one_stream (stream.Number number) s) refl
  where
    either : (b : Bool) → is_one_stream (stream.Number number) s ≡ b → b ≡ false
    either false e = refl
    either true e =
        let gone : find book s ≡ None = ap (find book) (sym (one_stream (stream.Number number) s e)) ∙ stands.found (stream.Number number) ∙ none_there history number late in
        absurd (cc (there, ap is_some gone))

late_among : (book : Book) (history : History) (streams : List StreamRef) (number : ℕ) → Stands book history → stream_errors (find book) streams ≡ [] → streams_of history < number
    → list_any (is_one_stream (stream.Number number)) streams ≡ false
late_among book history streams number stands good late = either (list_any (is_one_stream (stream.Number number)) streams) refl
  where
    either : (b : Bool) → list_any (is_one_stream (stream.Number number)) streams ≡ b → b ≡ false
    either false e = refl
    either true e =
        let fine = good_of (find book (stream.Number number)) (each_good (find book) 0 streams (stream.Number number) good e) in
        absurd (cc (fine.1, stands.found (stream.Number number), none_there history number late))

has_stream-same : (old new : History) (on : StreamRef) → streams_of new ≡ streams_of old → has_stream new on ≡ has_stream old on
has_stream-same old new stream.Default same = refl
has_stream-same old new (stream.Number number) same = ap (λ n. nat_le 1 number && nat_le number n) same
has_stream-same old new stream.Other same = refl

state_of-step : (f : StreamState → StreamState) (b : Bool) (x y : StreamState) → f x ≡ y → option_map f (if b then Some x else None) ≡ (if b then Some y else None)
state_of-step f true x y e = ap Some e
state_of-step f false x y e = refl

-- where the entry says of each stream what the book's change does
Stands-changes : (old new : Book) (history : History) (entry : Entry) (test : StreamRef → Bool) (what : StreamState → StreamState)
    → Stands old history → Changes old new test what → is_create entry.change ≡ false
    → ((on : StreamRef) (s : StreamState) → after on entry.change entry.moment s ≡ (if test on then what s else s))
    → ((number : ℕ) → streams_of history < number → test (stream.Number number) ≡ false)
    → Stands new (history ++ entry ∷ [])
Stands-changes old new history entry test what stands changes kept step untouched = record {
  found = λ on.
      changes.found on
      ∙ ap (option_map (λ s. if test on then what s else s)) (stands.found on)
      ∙ state_of-step (λ s. if test on then what s else s) (has_stream history on) (state_in history on) (state_in (history ++ entry ∷ []) on) (sym (step on (state_in history on)) ∙ sym (state_in-push history entry on))
      ∙ ap (λ b. if b then Some (state_in (history ++ entry ∷ []) on) else None) (sym (has_stream-same history (history ++ entry ∷ []) on same));
  count = changes.count ∙ stands.count ∙ sym same;
  fresh = λ number late.
      let later : streams_of history < number = rw same at late in
      state_in-push history entry (stream.Number number)
      ∙ step (stream.Number number) (state_in history (stream.Number number))
      ∙ ap (λ b. if b then what (state_in history (stream.Number number)) else state_in history (stream.Number number)) (untouched number later)
      ∙ stands.fresh number later;
}
  where
    same : streams_of (history ++ entry ∷ []) ≡ streams_of history
    same = streams_of-push history entry ∙ ap (λ b. streams_of history + cond b 1 0) kept ∙ add-zero (streams_of history)

not_created : (on : StreamRef) (rows : ℕ) (c : Change) → IsAppend on rows c → is_create c ≡ false
not_created on rows (change.Append name offset more bytes) is = refl
not_created on rows (change.Create number k) is = absurd is
not_created on rows (change.Flush name upto) is = refl
not_created on rows (change.Finalise name) is = refl
not_created on rows (change.Commit streams) is = refl
not_created on rows (change.Session number at pred fields roots) is = refl
not_created on rows (change.Split session node left right) is = refl

pub Stands-append : (old new : Book) (to : StreamRef) (rows : ℕ) → IsSome (find old to) → Changes old new (λ on. is_one_stream on to) (with_rows rows)
    → (history : History) (entry : Entry) → Stands old history → IsAppend to rows entry.change → Stands new (history ++ entry ∷ [])
Stands-append old new to rows there changes history entry stands is =
    Stands-changes old new history entry (λ on. is_one_stream on to) (with_rows rows) stands changes (not_created to rows entry.change is)
    (λ on s. after-append on to rows entry.change entry.moment s is) (λ number late. late_other old history to number stands there late)

pub Stands-flush : (old new : Book) (to : StreamRef) (upto : ℕ) → IsSome (find old to) → Changes old new (λ on. is_one_stream on to) (with_flushed upto)
    → (history : History) (entry : Entry) → Stands old history → entry.change ≡ change.Flush to upto → Stands new (history ++ entry ∷ [])
Stands-flush old new to upto there changes history entry stands is =
    Stands-changes old new history entry (λ on. is_one_stream on to) (with_flushed upto) stands changes (ap is_create is)
    (λ on s. ap (λ c. after on c entry.moment s) is ∙ after-flush on to upto entry.moment s) (λ number late. late_other old history to number stands there late)

pub Stands-finalise : (old new : Book) (to : StreamRef) → IsSome (find old to) → Changes old new (λ on. is_one_stream on to) with_finalised
    → (history : History) (entry : Entry) → Stands old history → entry.change ≡ change.Finalise to → Stands new (history ++ entry ∷ [])
Stands-finalise old new to there changes history entry stands is =
    Stands-changes old new history entry (λ on. is_one_stream on to) with_finalised stands changes (ap is_create is)
    (λ on s. ap (λ c. after on c entry.moment s) is ∙ after-finalise on to entry.moment s) (λ number late. late_other old history to number stands there late)

Stands-commit : (old new : Book) (streams : List StreamRef) (moment : ℤ) → stream_errors (find old) streams ≡ []
    → Changes old new (λ on. list_any (is_one_stream on) streams) (with_committed moment)
    → (history : History) (entry : Entry) → Stands old history → entry.change ≡ change.Commit streams → entry.moment ≡ moment → Stands new (history ++ entry ∷ [])
Stands-commit old new streams moment good changes history entry stands is at =
    Stands-changes old new history entry (λ on. list_any (is_one_stream on) streams) (with_committed moment) stands changes (ap is_create is)
    (λ on s. ap (λ c. after on c entry.moment s) is ∙ ap (λ m. after on (change.Commit streams) m s) at ∙ after-commit on streams moment s)
    (λ number late. late_among old history streams number stands good late)

pub Stands-committed : (old new : Book) (streams : List StreamRef) (i : ℕ) (moment : ℤ) → stream_errors (find old) streams ≡ [] → length streams ≤ i
    → Changes old new (λ on. list_any (is_one_stream on) (take i streams)) (with_committed moment)
    → (history : History) (entry : Entry) → Stands old history → entry.change ≡ change.Commit streams → entry.moment ≡ moment → Stands new (history ++ entry ∷ [])
Stands-committed old new streams i moment good passed changes =
    let all : take i streams ≡ streams = take_all i streams passed in
    Stands-commit old new streams moment good (record {
      found = λ s. changes.found s ∙ ap (λ xs. option_map (λ state. if list_any (is_one_stream s) xs then with_committed moment state else state) (find old s)) all;
      count = changes.count;
    })

-- A session or a split changes no stream.
not_created-read : (c : Change) → IsRead c → is_create c ≡ false
not_created-read (change.Session number at pred fields roots) is = refl
not_created-read (change.Split session node left right) is = refl
not_created-read (change.Append to offset rows bytes) is = refl
not_created-read (change.Create number k) is = absurd is
not_created-read (change.Flush to upto) is = refl
not_created-read (change.Finalise to) is = refl
not_created-read (change.Commit streams) is = refl

pub Stands-read : ReadsKeepBooks
Stands-read book history entry stands is =
    Stands-changes book book history entry (λ on. false) (λ s. s) stands (record { found = λ on. same (find book on); count = refl }) (not_created-read entry.change is)
    (λ on s. after-read on entry.change entry.moment s is) (λ number late. refl)
  where
    same : (found : Option StreamState) → found ≡ option_map (λ s. s) found
    same None = refl
    same (Some state) = refl

-- A new stream.
is_next : (n l : ℕ) → (n == l + 1) ≡ true → (nat_lt 0 n ≡ true) × ((n - 1 == l) ≡ true)
is_next n l e = (grind (arith, nat_tests), grind (arith, nat_tests))

not_next : (n l : ℕ) → (n == l + 1) ≡ false → nat_lt 0 n ≡ true → (n - 1 == l) ≡ false
not_next n l e some = grind (arith, nat_tests)

next_there : (n l d : ℕ) → d ≡ l + 1 → (n == l + 1) ≡ true → (nat_le 1 n && nat_le n d) ≡ true
next_there n l d more e = grind (arith, nat_tests)

next_late : (n l c : ℕ) → l ≡ c → (n == l + 1) ≡ true → c < n
next_late n l c same e = let is : n ≡ l + 1 = eqb-true n (l + 1) e in omega arith

as_there : (n l c d : ℕ) → l ≡ c → d ≡ l + 1 → (n == l + 1) ≡ false → (nat_le 1 n && nat_le n c) ≡ (nat_le 1 n && nat_le n d)
as_there n l c d same more e = grind (arith, nat_tests)

later_other : (n l d : ℕ) → d ≡ l + 1 → d < n → (n == l + 1) ≡ false
later_other n l d more late = grind (arith, nat_tests)

abbrev with_stream : Book → StreamState → Book
with_stream book state = record book { created = book.created ++ state ∷ [] }

find-next : (book : Book) (x : StreamState) (n : ℕ) → (n == length book.created + 1) ≡ true → find (with_stream book x) (stream.Number n) ≡ Some x
find-next book x n e =
    let is = is_next n (length book.created) e in
    ap (λ b. if b then slice_get (book.created ++ x ∷ []) (n - 1) else None) is.0
    ∙ slice_get-push book.created (n - 1) x
    ∙ ap (λ b. if b then Some x else slice_get book.created (n - 1)) is.1

find-others : (book : Book) (x : StreamState) (n : ℕ) → (n == length book.created + 1) ≡ false → find (with_stream book x) (stream.Number n) ≡ find book (stream.Number n)
find-others book x n e = either (nat_lt 0 n) refl
  where
    either : (b : Bool) → nat_lt 0 n ≡ b → (if b then slice_get (book.created ++ x ∷ []) (n - 1) else None) ≡ (if b then slice_get book.created (n - 1) else None)
    either false some = refl
    either true some =
        slice_get-push book.created (n - 1) x
        ∙ ap (λ b. if b then Some x else slice_get book.created (n - 1)) (not_next n (length book.created) e some)

Stands-add : (old : Book) (k : StreamKind) (moment : ℤ) (history : History) (entry : Entry) → Stands old history
    → entry.change ≡ change.Create (length old.created + 1) k → entry.moment ≡ moment
    → Stands (record old { created = old.created ++ unused k (Some moment) ∷ [] }) (history ++ entry ∷ [])
Stands-add old k moment history entry stands is at = record {
  found = found;
  count = length_push old.created (unused k (Some moment)) ∙ sym more;
  fresh = λ number late.
      let later = later_other number (length old.created) (streams_of (history ++ entry ∷ [])) more late in
      let count = stands.count in
      let before : streams_of history < number = omega (arith, more) in
      other (stream.Number number) later ∙ stands.fresh number before;
}
  where
    next : ℕ
    next = length old.created + 1

    more : streams_of (history ++ entry ∷ []) ≡ length old.created + 1
    more = streams_of-push history entry ∙ ap (λ c. streams_of history + cond (is_create c) 1 0) is ∙ ap (λ n. n + 1) (sym stands.count)

    told : (on : StreamRef) → state_in (history ++ entry ∷ []) on ≡ after on (change.Create (length old.created + 1) k) moment (state_in history on)
    told on =
        state_in-push history entry on
        ∙ ap (λ c. after on c entry.moment (state_in history on)) is
        ∙ ap (λ m. after on (change.Create (length old.created + 1) k) m (state_in history on)) at

    other : (on : StreamRef) → is_one_stream on (stream.Number (length old.created + 1)) ≡ false → state_in (history ++ entry ∷ []) on ≡ state_in history on
    other on e = told on ∙ after-create-other on (length old.created + 1) k moment (state_in history on) e

    number_found : (n : ℕ) (b : Bool) → (n == length old.created + 1) ≡ b
        → find (with_stream old (unused k (Some moment))) (stream.Number n) ≡ state_of (history ++ entry ∷ []) (stream.Number n)
    number_found n true e =
        find-next old (unused k (Some moment)) n e
        ∙ ap Some (sym (
        told (stream.Number n)
        ∙ ap (after (stream.Number n) (change.Create (length old.created + 1) k) moment) (stands.fresh n (next_late n (length old.created) (streams_of history) stands.count e))
        ∙ after-create (stream.Number n) (length old.created + 1) k moment e))
        ∙ ap (λ b. if b then Some (state_in (history ++ entry ∷ []) (stream.Number n)) else None) (sym (next_there n (length old.created) (streams_of (history ++ entry ∷ [])) more e))
    number_found n false e =
        find-others old (unused k (Some moment)) n e
        ∙ stands.found (stream.Number n)
        ∙ ap (λ b. if b then Some (state_in history (stream.Number n)) else None) (as_there n (length old.created) (streams_of history) (streams_of (history ++ entry ∷ [])) stands.count more e)
        ∙ ap (λ s. if nat_le 1 n && nat_le n (streams_of (history ++ entry ∷ [])) then Some s else None) (sym (other (stream.Number n) e))

    found : (on : StreamRef) → find (with_stream old (unused k (Some moment))) on ≡ state_of (history ++ entry ∷ []) on
    found stream.Default = stands.found stream.Default ∙ ap Some (sym (other stream.Default refl))
    found (stream.Number n) = number_found n (n == length old.created + 1) refl
    found stream.Other = refl

pub Stands-added : (old new : Book) (k : StreamKind) (moment : ℤ) → new ≡ with_stream old (unused k (Some moment)) → (history : History) (entry : Entry) → Stands old history
    → entry.change ≡ change.Create (length old.created + 1) k → entry.moment ≡ moment → Stands new (history ++ entry ∷ [])
Stands-added old new k moment added history entry stands is at =
    let P : Book → Type 0 = λ book. Stands book (history ++ entry ∷ []) in
    subst P (sym added) (Stands-add old k moment history entry stands is at)
