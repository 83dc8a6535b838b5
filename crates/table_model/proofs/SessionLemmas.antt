-- The sessions of a legal history: each is a split tree over rows that are visible, and later entries split its nodes alone.
use Rattle.std.proofs.Common.{◌≡◌, ℕ, ◌+◌, ◌≤◌, ℤ, pos, ◌≤ℤ◌, Bool, true, false, cond, List, [], ◌∷◌, ◌++◌, append_assoc, length, None, Some, refl, sym, ap, ◌∙◌, subst, arith}
use Rattle.std.specs.Prelude.{Option, ◌==◌, int_le, slice_get, if◌then◌else◌}
use Rattle.std.specs.Option.{option_map}
use Rattle.std.proofs.lemmas.Bool.{eqb-true}
use Rattle.std.proofs.lemmas.Int.{ints}
use Rattle.std.proofs.lemmas.List.{append-nil, length-append}
use Rattle.std.proofs.lemmas.List.Sums.{fold_push, fold-append, sum_by_push}
use Rattle.std.proofs.lemmas.Option.{same_Some, slice_get_within, get_or_from_slice_get}
use Rattle.column_types.specs.declared.column.Column.{Column}
use Rattle.column_types.specs.declared.predicate.Pred.{Pred}
use Rattle.column_types.specs.declared.row.Row.{Row}
use Rattle.split_tree.specs.declared.node.Node.{Node}
use Rattle.split_tree.specs.declared.node.Cut.TheVariants as cut
use Rattle.split_tree.specs.Intervals.{roots_of}
use Rattle.split_tree.specs.Nodes.{Nodes, node_of, cut_by, with_split, with_splits, interval_of, IsSplitTree, CanSplit}
use Rattle.split_tree.proofs.Roots.{IsSplitTree-roots, some_roots, few_roots}
use Rattle.split_tree.specs.Parts.{rows_of_node}
use Rattle.split_tree.specs.Laws.{Stay}
use Rattle.split_tree.proofs.Joins.{children_join, cuts_join}
use Rattle.split_tree.proofs.Later.{opens, splits_keep, later_intervals, later_nodes_stay, CanSplit-append}
use Rattle.table_model.specs.declared.entries.Entry.{Entry}
use Rattle.table_model.specs.declared.entries.Change.{Change}
use Rattle.table_model.specs.declared.entries.Change.TheVariants as change
use Rattle.table_model.specs.declared.replies.Answer.TheVariants.{Accept}
use Rattle.table_model.specs.declared.sessions.ReadNode.{ReadNode}
use Rattle.table_model.specs.History.{History, is_session, sessions_of}
use Rattle.table_model.specs.Facts.{facts_of}
use Rattle.table_model.specs.Look.{look_of}
use Rattle.table_model.specs.Visible.{gather, rows_shown, visible_of}
use Rattle.table_model.specs.Sessions.{Opened, accepted_by, visible_by, begun, split_at, opened_after, session_of, node_in}
use Rattle.table_model.specs.Fits.{RisesFrom}
use Rattle.table_model.specs.Accepted.{IsMade, Makes, Begins}
use Rattle.table_model.specs.Legal.{IsAccepted, EachIsAccepted}
use Rattle.table_model.specs.Table.{IsWithin}
use Rattle.table_model.specs.Laws.{SessionsAreTrees, SessionsStay, IsSplitSince, SessionsJoin, NodeRowsStay}
use Rattle.table_model.proofs.AcceptedLemmas.{answer_by-Accept}
use Rattle.table_model.proofs.LawLemmas.{gather-append}
use Rattle.table_model.proofs.PlainLemmas.{IsWithin-after, within-empty}

-- ---- snapshots

-- where moments rise, no entry behind a later one was accepted by a moment
none_by : (moment least : ℤ) (history : History) → RisesFrom least history → int_le least moment ≡ false → accepted_by history moment ≡ []
none_by moment least [] rises late = refl
none_by moment least (entry ∷ history) rises late =
    let later : int_le entry.moment moment ≡ false = still (int_le entry.moment moment) refl in
    ap (λ b. cond b (entry ∷ accepted_by history moment) (accepted_by history moment)) later
    ∙ none_by moment entry.moment history rises.1 later
  where
    still : (b : Bool) → int_le entry.moment moment ≡ b → b ≡ false
    still false e = refl
    still true e = let above : least ≤ℤ entry.moment = rises.0 in absurd (omega (arith, ints))

-- they are the first ones
first_by : (moment least : ℤ) (history : History) → RisesFrom least history → (rest : History) × (history ≡ accepted_by history moment ++ rest)
first_by moment least [] rises = ([], refl)
first_by moment least (entry ∷ history) rises = either (int_le entry.moment moment) refl (first_by moment entry.moment history rises.1)
  where
    either : (b : Bool) → int_le entry.moment moment ≡ b → (rest : History) × (history ≡ accepted_by history moment ++ rest)
        → (rest : History) × (entry ∷ history ≡ cond b (entry ∷ accepted_by history moment) (accepted_by history moment) ++ rest)
    either true e first = (first.0, ap (λ h. entry ∷ h) first.1)
    either false e first = (entry ∷ history, ap (λ h. h ++ entry ∷ history) (sym (none_by moment entry.moment history rises.1 e)))

visible-grows : (history more : History) → length (visible_of history) ≤ length (visible_of (history ++ more))
visible-grows history more =
    rw (gather-append rows_shown [] history more, length-append (visible_of history) (gather rows_shown history more)) (omega arith)

-- no more rows were visible at a moment than are
pub visible_by-le : (least : ℤ) (history : History) (moment : ℤ) → RisesFrom least history → visible_by history moment ≤ length (visible_of history)
visible_by-le least history moment rises =
    let first = first_by moment least history rises in
    subst (λ h. visible_by history moment ≤ length (visible_of h)) (sym first.1) (visible-grows (accepted_by history moment) first.0)

-- ---- one entry more

pub session_of-push : (history : History) (entry : Entry) (number : ℕ)
    → session_of (history ++ entry ∷ []) number ≡ opened_after number (session_of history number) entry.moment entry.change
unfolding session_of
session_of-push history entry number = fold_push (λ before e. opened_after number before e.moment e.change) None history entry

pub sessions_of-push : (history : History) (entry : Entry) → sessions_of (history ++ entry ∷ []) ≡ sessions_of history + cond (is_session entry.change) 1 0
sessions_of-push history entry = sum_by_push (λ e. cond (is_session e.change) 1 0) history entry

-- a node that is split is one of its session, and can be
record CanOpen (found : Option Opened) (node : ℕ) : Type 0 where
  session : Opened
  there : found ≡ Some session
  can : CanSplit session.nodes (node ∷ [])

can_open : (found : Option Opened) (node left right : ℕ) (state : ReadNode) → node_in found node ≡ Some state → cut_by state.node state.nodes ≡ cut.Made left right
    → CanOpen found node
can_open None node left right state there made = absurd (cc)
can_open (Some session) node left right state there made = by_node (slice_get session.nodes.list node) refl there
  where
    by_node : (found : Option Node) → slice_get session.nodes.list node ≡ found
        → option_map (λ (n : Node). record { moment = session.moment; node = n; nodes = length session.nodes.list }) found ≡ Some state
        → CanOpen (Some session) node
    by_node None e is = absurd (cc)
    by_node (Some found) e is =
        let same : record { moment = session.moment; node = found; nodes = length session.nodes.list } ≡ state = same_Some _ _ is in
        let cuts : cut_by found (length session.nodes.list) ≡ cut.Made left right =
        ap (λ (s : ReadNode). cut_by s.node s.nodes) same ∙ made in
        let opened = opens found (length session.nodes.list) left right cuts in
        let at : node_of session.nodes node ≡ found = get_or_from_slice_get session.nodes.list node found _ e in
        record {
          session = session;
          there = refl;
          can = (
            slice_get_within session.nodes.list node found e,
            ap (λ n. cut_by n (length session.nodes.list)) at ∙ cuts ∙ ap (λ l. cut.Made l right) opened.first ∙ ap (cut.Made (length session.nodes.list)) opened.second,
            tt,
          );
        }

-- ---- what a legal history keeps

-- a session is a tree over some of so many visible rows, and has one of the numbers
record IsKept (visible last number : ℕ) (session : Opened) : Type 0 where
  tree : IsSplitTree session.nodes
  at : session.nodes.at ≤ visible
  numbered : number ≤ last

abbrev Kept : (visible last number : ℕ) → Option Opened → Type 0
Kept visible last number found = (session : Opened) → found ≡ Some session → IsKept visible last number session

abbrev AllKept : History → Type 0
AllKept history = (number : ℕ) → Kept (length (visible_of history)) (sessions_of history) number (session_of history number)

kept_longer : (v s w t number : ℕ) (session : Opened) → v ≤ w → s ≤ t → IsKept v s number session → IsKept w t number session
kept_longer v s w t number session rows more kept =
    let at : session.nodes.at ≤ v = kept.at in
    let numbered : number ≤ s = kept.numbered in
    record { tree = kept.tree; at = omega arith; numbered = omega arith }

-- a new session
kept_begun : (history : History) (moment : ℤ) (number at : ℕ) (pred : Pred) (fields : List ℕ) (roots w t : ℕ) → RisesFrom (pos 0) history
    → Begins (facts_of 0 history 0) (λ m. visible_by history m) number at roots → length (visible_of history) ≤ w → sessions_of history + 1 ≤ t
    → IsKept w t number (begun moment at pred fields roots)
kept_begun history moment number at pred fields roots w t rises begins rows more =
    let few = visible_by-le (pos 0) history begins.moment rises in
    let visible : at ≡ visible_by history begins.moment = begins.visible in
    let next : number ≡ sessions_of history + 1 = begins.next in
    record {
      tree = rw begins.cut (IsSplitTree-roots at (roots_of at begins.count) (some_roots at begins.count) (few_roots at begins.count));
      at = omega arith;
      numbered = omega arith;
    }

-- a session with a node split
kept_split : (v s node number : ℕ) (session : Opened) → CanSplit session.nodes (node ∷ []) → IsKept v s number session → IsKept v s number (split_at node session)
kept_split v s node number session can kept = record {
  tree = splits_keep session.nodes (node ∷ []) kept.tree can;
  at = kept.at;
  numbered = kept.numbered;
}

kept_after : (columns : ℕ) (history : History) (caller : ℕ) (c : Change) (moment : ℤ) (number w t : ℕ) → AllKept history → RisesFrom (pos 0) history
    → Makes (facts_of columns history caller) (look_of history) c → length (visible_of history) ≤ w → sessions_of history + cond (is_session c) 1 0 ≤ t
    → Kept w t number (opened_after number (session_of history number) moment c)
kept_after columns history caller (change.Session new at pred fields roots) moment number w t kept rises makes rows more = either (new == number) refl
  where
    either : (b : Bool) → (new == number) ≡ b → Kept w t number (if b then Some (begun moment at pred fields roots) else session_of history number)
    either true e session there =
        let is : new ≡ number = eqb-true new number e in
        let same : begun moment at pred fields roots ≡ session = same_Some _ _ there in
        subst (IsKept w t number) same (subst (λ n. IsKept w t n (begun moment at pred fields roots)) is
        (kept_begun history moment new at pred fields roots w t rises
        (record { next = makes.next; room = makes.room; moment = makes.moment; visible = makes.visible; count = makes.count; cut = makes.cut }) rows more))
    either false e session there =
        kept_longer (length (visible_of history)) (sessions_of history) w t number session rows (omega (arith, more)) (kept number session there)
kept_after columns history caller (change.Split session node left right) moment number w t kept rises makes rows more = either (session == number) refl
  where
    opened : CanOpen (session_of history session) node
    opened = can_open (session_of history session) node left right makes.state makes.there makes.made

    either : (b : Bool) → (session == number) ≡ b → Kept w t number (if b then option_map (split_at node) (session_of history number) else session_of history number)
    either true e new there =
        let is : session ≡ number = eqb-true session number e in
        let was : session_of history number ≡ Some opened.session = ap (session_of history) (sym is) ∙ opened.there in
        let same : split_at node opened.session ≡ new = same_Some _ _ (sym (ap (option_map (split_at node)) was) ∙ there) in
        subst (IsKept w t number) same (kept_split w t node number opened.session opened.can (
        kept_longer (length (visible_of history)) (sessions_of history) w t number opened.session rows (omega (arith, more)) (kept number opened.session was)))
    either false e new there = kept_longer (length (visible_of history)) (sessions_of history) w t number new rows (omega (arith, more)) (kept number new there)
kept_after columns history caller (change.Create n kind) moment number w t kept rises makes rows more =
    λ session there. kept_longer (length (visible_of history)) (sessions_of history) w t number session rows (omega (arith, more)) (kept number session there)
kept_after columns history caller (change.Append on offset new bytes) moment number w t kept rises makes rows more =
    λ session there. kept_longer (length (visible_of history)) (sessions_of history) w t number session rows (omega (arith, more)) (kept number session there)
kept_after columns history caller (change.Flush on upto) moment number w t kept rises makes rows more =
    λ session there. kept_longer (length (visible_of history)) (sessions_of history) w t number session rows (omega (arith, more)) (kept number session there)
kept_after columns history caller (change.Finalise on) moment number w t kept rises makes rows more =
    λ session there. kept_longer (length (visible_of history)) (sessions_of history) w t number session rows (omega (arith, more)) (kept number session there)
kept_after columns history caller (change.Commit streams) moment number w t kept rises makes rows more =
    λ session there. kept_longer (length (visible_of history)) (sessions_of history) w t number session rows (omega (arith, more)) (kept number session there)

kept_push : (columns : ℕ) (history : History) (entry : Entry) → AllKept history → RisesFrom (pos 0) history
    → IsMade (facts_of columns history entry.caller) (look_of history) entry → AllKept (history ++ entry ∷ [])
kept_push columns history entry kept rises made number =
    rw (session_of-push history entry number) (
    kept_after columns history entry.caller entry.change entry.moment number (length (visible_of (history ++ entry ∷ []))) (sessions_of (history ++ entry ∷ [])) kept rises
    made.makes (visible-grows history (entry ∷ [])) (rw (sessions_of-push history entry) (omega arith)))

-- What a history keeps that is legal up to here.
record StandsAt (columns : List Column) (history : History) : Type 0 where
  within : IsWithin columns history
  kept : AllKept history

stands_push : (columns : List Column) (history : History) (entry : Entry) → StandsAt columns history → IsAccepted columns history entry → StandsAt columns (history ++ entry ∷ [])
stands_push columns history entry stands accepted = record {
  within = IsWithin-after columns history entry.caller accepted.asked accepted.reading (Accept entry accepted.reply) stands.within accepted.taken accepted.in_time (sym accepted.answered);
  kept = kept_push (length columns) history entry stands.kept stands.within.rises (
      answer_by-Accept (facts_of (length columns) history entry.caller) (look_of history) accepted.asked accepted.reading entry accepted.reply accepted.answered);
}

stands_more : (columns : List Column) (before more : History) → StandsAt columns before → EachIsAccepted columns before more → StandsAt columns (before ++ more)
stands_more columns before [] stands each = rw (append-nil before) stands
stands_more columns before (entry ∷ more) stands each =
    rw (← append_assoc before (entry ∷ []) more) (stands_more columns (before ++ entry ∷ []) more (stands_push columns before entry stands each.0) each.1)

no_session : (number : ℕ) (session : Opened) (P : Type 0) → session_of [] number ≡ Some session → P
unfolding session_of
no_session number session P there = absurd (cc)

stands_empty : (columns : List Column) → StandsAt columns []
stands_empty columns = record {
  within = within-empty columns;
  kept = λ number session there. no_session number session (IsKept (length (visible_of [])) (sessions_of []) number session) there;
}

pub are_trees : SessionsAreTrees
are_trees columns history number session legal there =
    let is = (stands_more columns [] history (stands_empty columns) legal).kept number session there in
    (is.tree, is.at)

-- ---- later entries

since : (old new : Opened) (numbers : List ℕ) → CanSplit old.nodes numbers → new ≡ record old { nodes = with_splits old.nodes numbers } → IsSplitSince old new
since old new numbers can now = record {
  numbers = numbers;
  can = can;
  now = now;
  intervals = λ node here. ap (λ (o : Opened). interval_of o.nodes node) now ∙ later_intervals old.nodes numbers node here;
}

since_then : (old new : Opened) (numbers : List ℕ) → CanSplit old.nodes numbers → IsSplitSince (record old { nodes = with_splits old.nodes numbers }) new → IsSplitSince old new
since_then old new numbers can later =
    since old new (numbers ++ later.numbers) (CanSplit-append old.nodes numbers later.numbers can later.can)
    (later.now ∙ ap (λ (nodes : Nodes). record old { nodes = nodes }) (sym (fold-append with_split old.nodes numbers later.numbers)))

since_since : (old middle new : Opened) → IsSplitSince old middle → IsSplitSince middle new → IsSplitSince old new
since_since old middle new first later = since_then old new first.numbers first.can (subst (λ o. IsSplitSince o new) first.now later)

abbrev Later : Opened → Option Opened → Type 0
Later old found = (new : Opened) × (found ≡ Some new) × IsSplitSince old new

later_same : (old : Opened) (found : Option Opened) → found ≡ Some old → Later old found
later_same old found there = (old, there, since old old [] tt refl)

later_after : (columns : ℕ) (history : History) (caller : ℕ) (c : Change) (moment : ℤ) (number : ℕ) (old : Opened) → number ≤ sessions_of history
    → Makes (facts_of columns history caller) (look_of history) c → session_of history number ≡ Some old
    → Later old (opened_after number (session_of history number) moment c)
later_after columns history caller (change.Session new at pred fields roots) moment number old numbered makes there = either (new == number) refl
  where
    either : (b : Bool) → (new == number) ≡ b → Later old (if b then Some (begun moment at pred fields roots) else session_of history number)
    either true e =
        let is : new ≡ number = eqb-true new number e in
        let next : new ≡ sessions_of history + 1 = makes.next in
        absurd (omega arith)
    either false e = later_same old (session_of history number) there
later_after columns history caller (change.Split session node left right) moment number old numbered makes there = either (session == number) refl
  where
    opened : CanOpen (session_of history session) node
    opened = can_open (session_of history session) node left right makes.state makes.there makes.made

    either : (b : Bool) → (session == number) ≡ b → Later old (if b then option_map (split_at node) (session_of history number) else session_of history number)
    either true e =
        let is : session ≡ number = eqb-true session number e in
        let same : opened.session ≡ old = same_Some _ _ (sym (ap (session_of history) (sym is) ∙ opened.there) ∙ there) in
        let can : CanSplit old.nodes (node ∷ []) = subst (λ (o : Opened). CanSplit o.nodes (node ∷ [])) same opened.can in
        (split_at node old, ap (option_map (split_at node)) there, since old (split_at node old) (node ∷ []) can refl)
    either false e = later_same old (session_of history number) there
later_after columns history caller (change.Create n kind) moment number old numbered makes there = later_same old (session_of history number) there
later_after columns history caller (change.Append on offset rows bytes) moment number old numbered makes there = later_same old (session_of history number) there
later_after columns history caller (change.Flush on upto) moment number old numbered makes there = later_same old (session_of history number) there
later_after columns history caller (change.Finalise on) moment number old numbered makes there = later_same old (session_of history number) there
later_after columns history caller (change.Commit streams) moment number old numbered makes there = later_same old (session_of history number) there

later_more : (columns : List Column) (history more : History) (number : ℕ) (old : Opened) → StandsAt columns history → EachIsAccepted columns history more
    → session_of history number ≡ Some old → Later old (session_of (history ++ more) number)
later_more columns history [] number old stands each there = rw (append-nil history) (later_same old (session_of history number) there)
later_more columns history (entry ∷ more) number old stands each there =
    let made = answer_by-Accept (facts_of (length columns) history entry.caller) (look_of history) each.0.asked each.0.reading entry each.0.reply each.0.answered in
    let step = later_after (length columns) history entry.caller entry.change entry.moment number old (stands.kept number old there).numbered made.makes there in
    let rest = later_more columns (history ++ entry ∷ []) more number step.0 (stands_push columns history entry stands each.0) each.1 (session_of-push history entry number ∙ step.1) in
    rw (← append_assoc history (entry ∷ []) more) (rest.0, rest.1, since_since old step.0 rest.0 step.2 rest.2)

each_before : (columns : List Column) (first history more : History) → EachIsAccepted columns first (history ++ more) → EachIsAccepted columns first history
each_before columns first [] more each = tt
each_before columns first (entry ∷ history) more each = (each.0, each_before columns (first ++ entry ∷ []) history more each.1)

each_behind : (columns : List Column) (first history more : History) → EachIsAccepted columns first (history ++ more) → EachIsAccepted columns (first ++ history) more
each_behind columns first [] more each = rw (append-nil first) each
each_behind columns first (entry ∷ history) more each = rw (← append_assoc first (entry ∷ []) history) (each_behind columns (first ++ entry ∷ []) history more each.1)

pub stay : SessionsStay
stay columns history more number session legal there =
    later_more columns history more number session (stands_more columns [] history (stands_empty columns) (each_before columns [] history more legal))
    (each_behind columns [] history more legal) there

-- ---- the rows of nodes

pub nodes_join : {Y : Type 0} → SessionsJoin Y
nodes_join columns history number session legal there =
    let tree = (are_trees columns history number session legal there).0 in
    record {
      cuts = λ cut is keep shape. cuts_join session.nodes cut tree is keep shape (visible_of history);
      children = λ node left right is keep shape. children_join session.nodes node left right tree is keep shape (visible_of history);
    }

pub rows_stay : {Y : Type 0} → NodeRowsStay Y
rows_stay {Y} columns history more number session later legal there after node here keep shape =
    let is = are_trees columns history number session (each_before columns [] history more legal) there in
    let found = stay columns history more number session legal there in
    let same : found.0 ≡ later = same_Some _ _ (sym found.1 ∙ after) in
    let nodes : later.nodes ≡ with_splits session.nodes found.2.numbers = ap (λ (o : Opened). o.nodes) (sym same ∙ found.2.now) in
    let stays : Stay Row Y session.nodes (with_splits session.nodes found.2.numbers) = later_nodes_stay session.nodes found.2.numbers is.0 found.2.can in
    ap (λ (n : Nodes). rows_of_node keep shape n node (visible_of (history ++ more))) nodes
    ∙ ap (rows_of_node keep shape (with_splits session.nodes found.2.numbers) node) (gather-append rows_shown [] history more)
    ∙ stays.rows node here keep shape (visible_of history) (gather rows_shown history more) is.1
