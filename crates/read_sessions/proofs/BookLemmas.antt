-- A book that stands for a history stands, after a session was begun or a node split, for the history with that entry.
use Rattle.std.proofs.Common.{◌≡◌, ℕ, zero, suc, ◌+◌, ◌-◌, ◌≤◌, ◌<◌, ℤ, Bool, true, false, cond, List, [], ◌∷◌, ◌++◌, length, get_or, None, Some, refl, sym, ap, ◌∙◌, subst, arith, add-zero}
use Rattle.std.specs.Prelude.{Option, nat_lt, ◌==◌, if◌then◌else◌, All}
use Rattle.std.specs.List.{slice_get}
use Rattle.std.specs.Option.{option_map}
use Rattle.std.proofs.lemmas.Bool.Decides.{nat_tests}
use Rattle.std.proofs.lemmas.List.{length_push}
use Rattle.std.proofs.lemmas.List.Elements.{All-nil, All-push, All-weaker}
use Rattle.std.proofs.lemmas.Option.{slice_get-get_or, same_Some}
use Rattle.column_types.specs.declared.predicate.Pred.{Pred}
use Rattle.split_tree.specs.Nodes.{Nodes, cut_of}
use Rattle.table_model.specs.declared.entries.Entry.{Entry}
use Rattle.table_model.specs.declared.entries.Change.{Change}
use Rattle.table_model.specs.declared.entries.Change.TheVariants as change
use Rattle.table_model.specs.History.{History, is_session, sessions_of}
use Rattle.table_model.specs.Visible.{visible_of}
use Rattle.table_model.specs.Sessions.{Opened, begun, split_at, opened_after, session_of}
use Rattle.read_sessions.specs.Book.{Book, find, Splits}
use Rattle.read_sessions.specs.Stands.{Stands, IsOther}
use Rattle.read_sessions.proofs.HistoryLemmas.{session_of-nil, session_of-push, sessions_of-push, fewer_before}

never_zero : (i : ℕ) → (suc i == 0) ≡ false
never_zero i = grind (arith, nat_tests)

zero_never : (n : ℕ) → (0 == suc n) ≡ false
zero_never n = grind (arith, nat_tests)

both_less : (i n : ℕ) → (i == n) ≡ (suc i == suc n)
both_less i n = grind (arith, nat_tests)

slice_get-push : {X : Type 0} (xs : List X) (i : ℕ) (x : X) → slice_get (xs ++ x ∷ []) i ≡ (if i == length xs then Some x else slice_get xs i)
slice_get-push [] zero x = refl
slice_get-push {X} [] (suc i) x = ap (λ b. if b then Some x else None) (sym (never_zero i))
slice_get-push (y ∷ ys) zero x = ap (λ b. if b then Some x else Some y) (sym (zero_never (length ys)))
slice_get-push (y ∷ ys) (suc i) x = slice_get-push ys i x ∙ ap (λ b. if b then Some x else slice_get ys i) (both_less i (length ys))

not_zero : (n : ℕ) → (n + 1 == 0) ≡ false
not_zero n = grind (arith, nat_tests)

next_is : (i n : ℕ) → (i == n) ≡ (n + 1 == suc i)
next_is i n = grind (arith, nat_tests)

some_less : (i : ℕ) → nat_lt 0 (suc i) ≡ true
some_less i = grind (arith, nat_tests)

before_next : (i : ℕ) → suc i - 1 ≡ i
before_next i = omega arith

find-suc : (book : Book) (i : ℕ) → find book (suc i) ≡ slice_get book i
find-suc book i = ap (λ b. if b then slice_get book (suc i - 1) else None) (some_less i) ∙ ap (slice_get book) (before_next i)

-- the next number finds the session that was added, and every other number what it found before
find-push : (book : Book) (session : Opened) (number : ℕ) → find (book ++ session ∷ []) number ≡ (if length book + 1 == number then Some session else find book number)
find-push book session zero = ap (λ b. if b then Some session else None) (sym (not_zero (length book)))
find-push book session (suc i) =
    find-suc (book ++ session ∷ []) i
    ∙ slice_get-push book i session
    ∙ ap (λ b. if b then Some session else slice_get book i) (next_is i (length book))
    ∙ ap (λ o. if length book + 1 == suc i then Some session else o) (sym (find-suc book i))

find-none : (number : ℕ) → find [] number ≡ None
find-none zero = refl
find-none (suc i) = find-suc [] i

pub Stands-empty : Stands [] []
Stands-empty = record {
  found = λ number. find-none number ∙ sym (session_of-nil number);
  count = refl;
  within = All-nil (λ session. session.nodes.at ≤ length (visible_of []));
}

still_within : (book : Book) (history : History) (entry : Entry) → All (λ session. session.nodes.at ≤ length (visible_of history)) book
    → All (λ session. session.nodes.at ≤ length (visible_of (history ++ entry ∷ []))) book
still_within book history entry within =
    let grows = fewer_before history (entry ∷ []) in
    All-weaker (λ session. session.nodes.at ≤ length (visible_of history)) (λ session. session.nodes.at ≤ length (visible_of (history ++ entry ∷ [])))
    (λ session few. omega (arith, grows)) book within

-- behind the beginning of the next session
pub Stands-begin : (book : Book) (moment : ℤ) (at : ℕ) (pred : Pred) (fields : List ℕ) (roots : ℕ) (history : History) (entry : Entry) → Stands book history
    → at ≤ length (visible_of history) → entry.change ≡ change.Session (length book + 1) at pred fields roots → entry.moment ≡ moment
    → Stands (book ++ begun moment at pred fields roots ∷ []) (history ++ entry ∷ [])
Stands-begin book moment at pred fields roots history entry stands few is when = record {
  found = λ number.
      find-push book (begun moment at pred fields roots) number
      ∙ ap (λ o. if length book + 1 == number then Some (begun moment at pred fields roots) else o) (stands.found number)
      ∙ sym (session_of-push history entry number
      ∙ ap (opened_after number (session_of history number) entry.moment) is
      ∙ ap (λ m. opened_after number (session_of history number) m (change.Session (length book + 1) at pred fields roots)) when);
  count = length_push book (begun moment at pred fields roots) ∙ ap (λ n. n + 1) stands.count
      ∙ sym (sessions_of-push history entry ∙ ap (λ c. sessions_of history + cond (is_session c) 1 0) is);
  within =
      let grows = fewer_before history (entry ∷ []) in
      All-push (λ session. session.nodes.at ≤ length (visible_of (history ++ entry ∷ []))) book (begun moment at pred fields roots)
      (still_within book history entry stands.within) (omega (arith, grows));
}

-- a split changes no session's number of rows
same_at : (b : Bool) (node : ℕ) (old new : Opened) → Some new ≡ (if b then option_map (split_at node) (Some old) else Some old) → new.nodes.at ≡ old.nodes.at
same_at true node old new is = ap (λ s. s.nodes.at) (same_Some new (split_at node old) is)
same_at false node old new is = ap (λ s. s.nodes.at) (same_Some new old is)

split_within : (old new : Book) (session node most : ℕ) → Splits old new session node → All (λ s. s.nodes.at ≤ most) old → All (λ s. s.nodes.at ≤ most) new
split_within old new session node most splits within k d there =
    let before : k < length old = subst (λ n. k < n) splits.count there in
    let read = sym (find-suc new k ∙ slice_get-get_or new k d there) ∙ splits.found (suc k) ∙ ap (λ o. if session == suc k then option_map (split_at node) o else o) (find-suc old k ∙ slice_get-get_or old k d before) in
    subst (λ at. at ≤ most) (sym (same_at (session == suc k) node (get_or old k d) (get_or new k d) read)) (within k d before)

-- behind the split of a node
pub Stands-split : (old new : Book) (session node left right : ℕ) → Splits old new session node → (history : History) (entry : Entry) → Stands old history
    → entry.change ≡ change.Split session node left right → Stands new (history ++ entry ∷ [])
Stands-split old new session node left right splits history entry stands is = record {
  found = λ number.
      splits.found number
      ∙ ap (λ o. if session == number then option_map (split_at node) o else o) (stands.found number)
      ∙ sym (session_of-push history entry number ∙ ap (opened_after number (session_of history number) entry.moment) is);
  count = splits.count ∙ stands.count
      ∙ sym (sessions_of-push history entry ∙ ap (λ c. sessions_of history + cond (is_session c) 1 0) is ∙ add-zero (sessions_of history));
  within = split_within old new session node (length (visible_of (history ++ entry ∷ []))) splits (still_within old history entry stands.within);
}

opened_after-other : (number : ℕ) (before : Option Opened) (moment : ℤ) (c : Change) → IsOther c → opened_after number before moment c ≡ before
opened_after-other number before moment (change.Create name kind) other = refl
opened_after-other number before moment (change.Append on offset rows bytes) other = refl
opened_after-other number before moment (change.Flush on upto) other = refl
opened_after-other number before moment (change.Finalise on) other = refl
opened_after-other number before moment (change.Commit streams) other = refl
opened_after-other number before moment (change.Session name at pred fields roots) other = absurd other
opened_after-other number before moment (change.Split session node left right) other = absurd other

begins_none : (c : Change) → IsOther c → is_session c ≡ false
begins_none (change.Create name kind) other = refl
begins_none (change.Append on offset rows bytes) other = refl
begins_none (change.Flush on upto) other = refl
begins_none (change.Finalise on) other = refl
begins_none (change.Commit streams) other = refl
begins_none (change.Session name at pred fields roots) other = absurd other
begins_none (change.Split session node left right) other = refl

-- behind an entry of another sort
pub Stands-other : (book : Book) (history : History) (entry : Entry) → Stands book history → IsOther entry.change → Stands book (history ++ entry ∷ [])
Stands-other book history entry stands other = record {
  found = λ number. stands.found number ∙ sym (session_of-push history entry number ∙ opened_after-other number (session_of history number) entry.moment entry.change other);
  count = stands.count
      ∙ sym (sessions_of-push history entry ∙ ap (λ b. sessions_of history + cond b 1 0) (begins_none entry.change other) ∙ add-zero (sessions_of history));
  within = still_within book history entry stands.within;
}
