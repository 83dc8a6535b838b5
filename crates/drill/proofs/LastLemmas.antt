-- What later entries leave of the last session, and of a history without room for one.
use Rattle.std.proofs.Common.{◌≡◌, inl, inr, ℕ, ◌==◌, ◌<◌, ◌≤◌, ℤ, Bool, true, false, List, [], ◌∷◌, ◌++◌, append_assoc, length, map, filter, take, Option, None, Some, refl, sym, ap, ◌∙◌, subst, if◌then◌else◌, arith}
use Rattle.std.specs.Prelude.{IfOk, IfSome, Result, Ok, Err}
use Rattle.std.specs.List.{flat_map, range_with_len}
use Rattle.std.proofs.lemmas.List.{append-nil, length-append, take-append-le}
use Rattle.column_types.specs.declared.column.Column.{Column}
use Rattle.column_types.specs.declared.row.Row.{Row}
use Rattle.column_types.specs.Fields.{projected}
use Rattle.split_tree.specs.Nodes.{Nodes, with_split, with_splits}
use Rattle.split_tree.specs.Cuts.{whole}
use Rattle.read_cursor.specs.Lease.{keeps}
use Rattle.table_model.specs.History.{History, sessions_of}
use Rattle.table_model.specs.Legal.{IsLegal, Takes}
use Rattle.outside.specs.declared.wants.Memory.{Memory}
use Rattle.turn_table.specs.Turn.{IsLegal as IsLegalOfMachine}
use Rattle.turn_table.specs.View.{View, Reaches}
use Rattle.table_engine.specs.Turns.{Allows}
use Rattle.table_engine.specs.Laws.{MachineIsLegal}
use Rattle.table_model.specs.Table.{Table}
use Rattle.table_model.specs.declared.entries.Entry.{Entry}
use Rattle.table_model.specs.declared.entries.Change.{Change}
use Rattle.table_model.specs.declared.entries.Change.TheVariants as change
use Rattle.table_model.specs.Sessions.{Opened, session_of, opened_after, begun, split_at}
use Rattle.table_model.specs.Visible.{visible_of}
use Rattle.table_model.specs.Laws.{IsSplitSince}
use Rattle.table_model.proofs.SessionLemmas.{are_trees, stay, nodes_join, session_of-push, sessions_of-push}
use Rattle.table_model.proofs.LawLemmas.{grows}
use Rattle.drill.specs.Drains.{session_rows, node_rows, Drains, Went}
use Rattle.drill.specs.Summary.{IsFull, Draws, Sums, appends_of, lines_of, sum_of}
use Rattle.drill.specs.Table.{columns}
use Rattle.drill.specs.Begins.{Begun, Drawn, GivesRows}
use Rattle.drill.specs.declared.drained.Drained.{Drained}
use Rattle.drill.specs.declared.drained.DrainFault.{DrainFault}
use Rattle.drill.specs.declared.drained.DrainFault.TheVariants as fault
use Rattle.drill.specs.declared.moves.Move.{Move}
use Rattle.drill.proofs.SessionLemmas.{legal_front}

-- splits change no count of rows
splits_at : (nodes : Nodes) (numbers : List ℕ) → (with_splits nodes numbers).at ≡ nodes.at
splits_at nodes [] = refl
splits_at nodes (number ∷ numbers) = splits_at (with_split nodes number) numbers

-- a session has its rows behind later entries
rows_stay : (columns : List Column) (history more : History) (number : ℕ) (session later : Opened) → IsLegal columns (history ++ more)
    → session_of history number ≡ Some session → IsSplitSince session later → session_rows later (history ++ more) ≡ session_rows session history
rows_stay columns history more number session later legal begun since =
    let before = legal_front columns history more legal in
    let grow = grows history more in
    let within = (are_trees columns history number session before begun).1 in
    let keep : Opened → List Row → List Row = λ s rows. map (projected s.fields) (filter (keeps s.pred) rows) in
    ap (λ (s : Opened). session_rows s (history ++ more)) since.now
    ∙ ap (λ at. keep session (take at (visible_of (history ++ more)))) (splits_at session.nodes since.numbers)
    ∙ ap (λ rows. keep session (take session.nodes.at rows)) grow.1
    ∙ ap (keep session) (take-append-le session.nodes.at (visible_of history) grow.0 within)

sessions_grow : (history more : History) → sessions_of history ≤ sessions_of (history ++ more)
sessions_grow history [] = omega (arith, ap sessions_of (append-nil history))
sessions_grow history (entry ∷ more) =
    let next = sessions_grow (history ++ entry ∷ []) more in
    omega (arith, next, sessions_of-push history entry, ap sessions_of (append_assoc history (entry ∷ []) more))

full_stays : (history more : History) → IsFull history → IsFull (history ++ more)
full_stays history more (inl sessions) = inl (omega (arith, sessions, sessions_grow history more))
full_stays history more (inr entries) = inr (omega (arith, entries, length-append history more))

-- what was drawn is drawn of a history that goes on
pub draws_stay : (columns : List Column) (history more : History) (number : ℕ) (rows : List Row) → IsLegal columns (history ++ more)
    → Draws history number rows → Draws (history ++ more) number rows
draws_stay _ history more number rows legal (inl none) = inl (none.0, full_stays history more none.1, none.2)
draws_stay columns history more number rows legal (inr (session, is, are)) =
    let after = stay columns history more number session legal is in
    inr (after.0, after.1, are ∙ sym (rows_stay columns history more number session after.0 legal is after.2))

-- the rows of the roots, one behind another, are those of the session
pub roots_join : (columns : List Column) (history : History) (number : ℕ) (session : Opened) → IsLegal columns history → session_of history number ≡ Some session
    → flat_map (node_rows session history) (range_with_len 0 session.nodes.roots) ≡ session_rows session history
roots_join columns history number session legal begun =
    (nodes_join columns history number session legal begun).cuts (range_with_len 0 session.nodes.roots) whole (keeps session.pred) (projected session.fields)

-- ---- the session is there

abbrev There : History → ℕ → Type 0
There history number = (opened : Opened) × (session_of history number ≡ Some opened)

one_of : (b : Bool) (x y : Opened) → (o : Opened) × ((if b then Some x else Some y) ≡ Some o)
one_of true x y = (x, refl)
one_of false x y = (y, refl)

behind_entry : (number : ℕ) (before : Opened) (moment : ℤ) (what : Change) → (o : Opened) × (opened_after number (Some before) moment what ≡ Some o)
behind_entry number before moment (change.Create stream kind) = (before, refl)
behind_entry number before moment (change.Append stream offset rows bytes) = (before, refl)
behind_entry number before moment (change.Flush stream upto) = (before, refl)
behind_entry number before moment (change.Finalise stream) = (before, refl)
behind_entry number before moment (change.Commit streams) = (before, refl)
behind_entry number before moment (change.Session session at pred fields roots) = one_of (session == number) (begun moment at pred fields roots) before
behind_entry number before moment (change.Split session node left right) = one_of (session == number) (split_at node before) before

-- it is there behind later entries
there_stays : (history more : History) (number : ℕ) → There history number → There (history ++ more) number
there_stays history [] number there = (there.0, ap (λ h. session_of h number) (append-nil history) ∙ there.1)
there_stays history (entry ∷ more) number there =
    let next = behind_entry number there.0 entry.moment entry.change in
    let here : session_of (history ++ entry ∷ []) number ≡ Some next.0 =
    session_of-push history entry number ∙ ap (λ before. opened_after number before entry.moment entry.change) there.1 ∙ next.1 in
    subst (λ h. There h number) (append_assoc history (entry ∷ []) more) (there_stays (history ++ entry ∷ []) more number (next.0, here))

-- ---- the last session

pub drawn_stays : (columns : List Column) (history more : History) (number : ℕ) (drained : Option (List Row)) → IsLegal columns (history ++ more)
    → Drawn history number drained → Drawn (history ++ more) number drained
drawn_stays columns history more number (Some rows) legal draws = draws_stay columns history more number rows legal draws
drawn_stays _ history more number None legal there = there_stays history more number there

drawn_by : (columns : List Column) (caller number : ℕ) (moves : List Move) (history : History) (drained : Result Drained DrainFault) (given : Result (Option (List Row)) Memory)
    → There history number → Drains columns caller number moves history drained → GivesRows drained given → IfOk given (Drawn history number)
drawn_by columns caller number moves history (Ok drained) given there drains is =
    subst (λ g. IfOk g (Drawn history number)) (sym is) (inr (drains.session, drains.begun, drains.rows))
drawn_by columns caller number moves history (Err fault.Memory) (Ok rows) there drains is = absurd is
drawn_by columns caller number moves history (Err fault.Memory) (Err memory) there drains is = tt
drawn_by columns caller number moves history (Err fault.NoSession) given there drains is = absurd (let e = sym there.1 ∙ drains in cc)
drawn_by columns caller number moves history (Err (fault.Expired moment expires)) given there drains is = subst (λ g. IfOk g (Drawn history number)) (sym is) there
drawn_by columns caller number moves history (Err (fault.Refused told)) given there drains is = subst (λ g. IfOk g (Drawn history number)) (sym is) there

-- a drain of a session that was begun
pub has_drained : (columns : List Column) (caller number : ℕ) (moves : List Move) (old new : View Entry (List Column)) (drained : Result Drained DrainFault)
    (given : Result (Option (List Row)) Memory) → Begun old.seen number → 0 < number → Went number old new → Drains columns caller number moves new.seen drained
    → GivesRows drained given → IfOk given (Drawn new.seen number)
has_drained columns caller number moves old new drained given (inl none) some went drains is = absurd (omega (arith, some, none.0))
has_drained columns caller number moves old new drained given (inr opened) some went drains is =
    let there : There new.seen number = subst (λ (v : View Entry (List Column)). There v.seen number) (sym went.is) (there_stays old.seen went.more number (opened.1, opened.2)) in
    drawn_by columns caller number moves new.seen drained given there drains is

-- where there was no room for it
pub none_drawn : (history : History) (number : ℕ) → Begun history number → number ≡ 0 → Draws history number []
none_drawn history number (inl none) is = inl (is, none.1, refl)
none_drawn history number (inr opened) is = absurd (omega (arith, opened.0))

-- the rows of the roots of the session
pub roots_draw : (history : History) (number : ℕ) (rows : List Row) → There history number
    → IfSome (session_of history number) (λ opened. rows ≡ session_rows opened history) → Draws history number rows
roots_draw history number rows there are =
    inr (there.0, there.1, subst (λ o. IfSome o (λ opened. rows ≡ session_rows opened history)) there.1 are)

-- ---- the closed table

pub legal_table : (machine : MachineIsLegal) (table : Table) → IsLegalOfMachine (Takes table.columns) (Allows table.columns) table.entries → IsLegal table.columns table.entries
legal_table machine table is = (machine table.columns table.entries).0 is

pub closed : (machine : MachineIsLegal) (pass : View Entry (List Column)) (table : Table) (number : ℕ) (drained : Option (List Row)) → Reaches (λ (entry : Entry). entry.caller) pass table.entries
    → IsLegalOfMachine (Takes table.columns) (Allows table.columns) table.entries → Drawn pass.seen number drained → Drawn table.entries number drained
closed machine pass table number drained reaches legal drawn =
    let here : IsLegal table.columns (pass.seen ++ reaches.more) = subst (IsLegal table.columns) reaches.is (legal_table machine table legal) in
    subst (λ h. Drawn h number drained) (sym reaches.is) (drawn_stays table.columns pass.seen reaches.more number drained here drawn)

pub sums : (table : Table) (number repeats : ℕ) (rows : List Row) (text : List ℕ) → table.columns ≡ columns
    → IsLegal table.columns table.entries → Draws table.entries number rows
    → text ≡ lines_of (appends_of table.entries) repeats (length (visible_of table.entries)) (length rows) (sum_of rows) → Sums table number repeats text
sums table number repeats rows text are legal draws is = record { columns_are = are; legal = legal; rows = rows; draws = draws; text_is = is }

pub roots_ok : (history : History) (number : ℕ) (given : Result (List Row) Memory) → There history number
    → IfOk given (λ rows. IfSome (session_of history number) (λ opened. rows ≡ session_rows opened history)) → IfOk given (Draws history number)
roots_ok history number (Ok rows) there are = roots_draw history number rows there are
roots_ok history number (Err memory) there are = tt
