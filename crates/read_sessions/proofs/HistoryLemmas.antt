-- What one entry more says of the sessions, and of how many rows were visible.
use Rattle.std.proofs.Common.{◌≡◌, ℕ, ◌+◌, ◌≤◌, ℤ, ◌≤ℤ◌, Bool, true, false, cond, List, [], ◌∷◌, ◌++◌, length, filter, None, Some, refl, sym, ap, ◌∙◌, subst, arith}
use Rattle.std.specs.Prelude.{Option, int_le, pos, ◌==◌, if◌then◌else◌}
use Rattle.std.specs.Int.{int_max}
use Rattle.std.specs.List.{AllByRecursion, fold}
use Rattle.std.specs.Option.{option_map}
use Rattle.std.proofs.lemmas.Int.{ints}
use Rattle.std.proofs.lemmas.List.{append-nil, append_assoc, length-append}
use Rattle.std.proofs.lemmas.List.Elements.{filter-append}
use Rattle.std.proofs.lemmas.List.Sums.{fold_push, sum_by_push}
use Rattle.table_model.specs.declared.entries.Entry.{Entry}
use Rattle.table_model.specs.declared.entries.Change.{Change}
use Rattle.table_model.specs.declared.entries.Change.TheVariants as change
use Rattle.table_model.specs.History.{History, is_session, moment_of, sessions_of}
use Rattle.table_model.specs.Fits.{RisesFrom}
use Rattle.table_model.specs.Visible.{gather, rows_shown, visible_of}
use Rattle.table_model.specs.Sessions.{Opened, accepted_by, visible_by, begun, split_at, opened_after, session_of}
use Rattle.table_model.proofs.LawLemmas.{gather-append}

-- ---- one entry more

pub session_of-nil : (number : ℕ) → session_of [] number ≡ None
unfolding session_of
session_of-nil number = refl

pub session_of-push : (history : History) (entry : Entry) (number : ℕ)
    → session_of (history ++ entry ∷ []) number ≡ opened_after number (session_of history number) entry.moment entry.change
unfolding session_of
session_of-push history entry number = fold_push (λ before e. opened_after number before e.moment e.change) None history entry

pub sessions_of-push : (history : History) (entry : Entry) → sessions_of (history ++ entry ∷ []) ≡ sessions_of history + cond (is_session entry.change) 1 0
sessions_of-push history entry = sum_by_push (λ e. cond (is_session e.change) 1 0) history entry

-- the visible rows of a beginning are among those of the whole
pub fewer_before : (history more : History) → length (visible_of history) ≤ length (visible_of (history ++ more))
fewer_before history more =
    let whole = ap length (gather-append rows_shown [] history more) ∙ length-append (gather rows_shown [] history) (gather rows_shown history more) in
    omega (arith, whole)

-- ---- moments

le_trans : (a b c : ℤ) → a ≤ℤ b → b ≤ℤ c → a ≤ℤ c
le_trans a b c p q = grind (arith, ints)

le_true : (a b : ℤ) → a ≤ℤ b → int_le a b ≡ true
le_true a b p = grind (arith, ints)

true_le : (a b : ℤ) → int_le a b ≡ true → a ≤ℤ b
true_le a b p = grind (arith, ints)

past_false : (a b m : ℤ) → a ≤ℤ b → int_le a m ≡ false → int_le b m ≡ false
past_false a b m p q = grind (arith, ints)

-- no entry is later than the one behind them
pub rises_last : (from : ℤ) (history : History) (entry : Entry) → RisesFrom from (history ++ entry ∷ [])
    → AllByRecursion (λ e. e.moment ≤ℤ entry.moment) history × (from ≤ℤ entry.moment)
rises_last from [] entry rises = (tt, rises.0)
rises_last from (first ∷ history) entry rises =
    let rest = rises_last first.moment history entry rises.1 in
    ((rest.1, rest.0), le_trans from first.moment entry.moment rises.0 rest.1)

accepted_all : (moment upto : ℤ) (history : History) → moment ≤ℤ upto → AllByRecursion (λ e. e.moment ≤ℤ moment) history → accepted_by history upto ≡ history
accepted_all moment upto [] below each = refl
accepted_all moment upto (entry ∷ history) below each =
    ap (λ b. cond b (entry ∷ accepted_by history upto) (accepted_by history upto)) (le_true entry.moment upto (le_trans entry.moment moment upto each.0 below))
    ∙ ap (λ h. entry ∷ h) (accepted_all moment upto history below each.1)

-- the rows visible by a moment, one entry on: all where the entry is no later
pub visible_by-push : (history : History) (entry : Entry) (moment from : ℤ) → RisesFrom from (history ++ entry ∷ [])
    → visible_by (history ++ entry ∷ []) moment ≡ (if int_le entry.moment moment then length (visible_of (history ++ entry ∷ [])) else visible_by history moment)
visible_by-push history entry moment from rises =
    ap (λ h. length (visible_of h)) (filter-append (λ e. int_le e.moment moment) history (entry ∷ [])) ∙ either (int_le entry.moment moment) refl
  where
    either : (b : Bool) → int_le entry.moment moment ≡ b
        → length (visible_of (accepted_by history moment ++ cond b (entry ∷ []) [])) ≡ (if b then length (visible_of (history ++ entry ∷ [])) else visible_by history moment)
    either true is = ap (λ h. length (visible_of (h ++ entry ∷ []))) (accepted_all entry.moment moment history (true_le entry.moment moment is) (rises_last from history entry rises).0)
    either false is = ap (λ h. length (visible_of h)) (append-nil (accepted_by history moment))

-- all rows are visible by a moment that no entry is later than
pub visible_by-all : (history : History) (entry : Entry) (moment from : ℤ) → RisesFrom from (history ++ entry ∷ []) → int_le entry.moment moment ≡ true
    → visible_by history moment ≡ length (visible_of history)
visible_by-all history entry moment from rises is =
    ap (λ h. length (visible_of h)) (accepted_all entry.moment moment history (true_le entry.moment moment is) (rises_last from history entry rises).0)

none_accepted : (first moment : ℤ) (history : History) → RisesFrom first history → int_le first moment ≡ false → accepted_by history moment ≡ []
none_accepted first moment [] rises late = refl
none_accepted first moment (entry ∷ history) rises late =
    let later = past_false first entry.moment moment rises.0 late in
    ap (λ b. cond b (entry ∷ accepted_by history moment) (accepted_by history moment)) later ∙ none_accepted entry.moment moment history rises.1 later

-- the entries by a moment begin the history
accepted_first : (from moment : ℤ) (history : History) → RisesFrom from history → (more : History) × (history ≡ accepted_by history moment ++ more)
accepted_first from moment [] rises = ([], refl)
accepted_first from moment (entry ∷ history) rises = either (accepted_first entry.moment moment history rises.1) (int_le entry.moment moment) refl
  where
    either : (more : History) × (history ≡ accepted_by history moment ++ more) → (b : Bool) → int_le entry.moment moment ≡ b
        → (more : History) × (entry ∷ history ≡ cond b (entry ∷ accepted_by history moment) (accepted_by history moment) ++ more)
    either rest true is = (rest.0, ap (λ h. entry ∷ h) rest.1)
    either rest false is = (entry ∷ history, ap (λ h. h ++ entry ∷ history) (sym (none_accepted entry.moment moment history rises.1 is)))

-- no more rows were visible by a moment than are now
pub fewer_by : (from moment : ℤ) (history : History) → RisesFrom from history → visible_by history moment ≤ length (visible_of history)
fewer_by from moment history rises =
    let first = accepted_first from moment history rises in
    subst (λ h. visible_by history moment ≤ length (visible_of h)) (sym first.1) (fewer_before (accepted_by history moment) first.0)

-- ---- when a session was begun

abbrev IsBegunBy : ℤ → Option Opened → Type 0
IsBegunBy latest None = Unit {0}
IsBegunBy latest (Some session) = session.moment ≤ℤ latest

max_first : (a b m : ℤ) → m ≤ℤ a → m ≤ℤ int_max a b
max_first a b m p = grind (arith, ints)

max_second : (a b : ℤ) → b ≤ℤ int_max a b
max_second a b = grind (arith, ints)

still_by : (latest moment : ℤ) (before : Option Opened) → IsBegunBy latest before → IsBegunBy (int_max latest moment) before
still_by latest moment None by = by
still_by latest moment (Some session) by = max_first latest moment session.moment by

split_by : (latest : ℤ) (node : ℕ) (before : Option Opened) → IsBegunBy latest before → IsBegunBy latest (option_map (split_at node) before)
split_by latest node None by = by
split_by latest node (Some session) by = by

either_by : (latest : ℤ) (b : Bool) (one other : Option Opened) → IsBegunBy latest one → IsBegunBy latest other → IsBegunBy latest (if b then one else other)
either_by latest true one other p q = p
either_by latest false one other p q = q

after_by : (latest moment : ℤ) (number : ℕ) (before : Option Opened) (c : Change) → IsBegunBy latest before → IsBegunBy (int_max latest moment) (opened_after number before moment c)
after_by latest moment number before (change.Session session at pred fields roots) by =
    either_by (int_max latest moment) (session == number) (Some (begun moment at pred fields roots)) before (max_second latest moment) (still_by latest moment before by)
after_by latest moment number before (change.Split session node left right) by =
    either_by (int_max latest moment) (session == number) (option_map (split_at node) before) before
    (split_by (int_max latest moment) node before (still_by latest moment before by)) (still_by latest moment before by)
after_by latest moment number before (change.Create name kind) by = still_by latest moment before by
after_by latest moment number before (change.Append on offset rows bytes) by = still_by latest moment before by
after_by latest moment number before (change.Flush on upto) by = still_by latest moment before by
after_by latest moment number before (change.Finalise on) by = still_by latest moment before by
after_by latest moment number before (change.Commit streams) by = still_by latest moment before by

all_by : (latest : ℤ) (number : ℕ) (before : Option Opened) (history : History) → IsBegunBy latest before
    → IsBegunBy (fold (λ latest e. int_max latest e.moment) latest history) (fold (λ before e. opened_after number before e.moment e.change) before history)
all_by latest number before [] by = by
all_by latest number before (entry ∷ history) by =
    all_by (int_max latest entry.moment) number (opened_after number before entry.moment entry.change) history (after_by latest entry.moment number before entry.change by)

-- a session isn't later than the last entry
pub session_past : (history : History) (number : ℕ) (session : Opened) → session_of history number ≡ Some session → session.moment ≤ℤ moment_of history
unfolding session_of
session_past history number session is = subst (IsBegunBy (moment_of history)) is (all_by (pos 0) number None history tt)
