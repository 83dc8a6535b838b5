-- How the last session begins.
use Rattle.std.proofs.Common.{◌≡◌, inl, inr, ℕ, ◌+◌, ◌==◌, ◌≤◌, nat_le, ℤ, Bool, true, false, List, [], ◌∷◌, ◌++◌, length, Option, Some, refl, sym, ap, ◌∙◌, subst, if◌then◌else◌, arith}
use Rattle.std.proofs.lemmas.Bool.Decides.{nat_tests}
use Rattle.std.specs.Prelude.{Ok}
use Rattle.column_types.specs.declared.column.Column.{Column}
use Rattle.column_types.specs.Fields.{all_fields}
use Rattle.split_tree.specs.Intervals.{roots_of}
use Rattle.table_model.specs.declared.limits.TheConstants.{MAX_ENTRIES, MAX_SESSIONS}
use Rattle.table_model.specs.declared.commands.Command.{Command}
use Rattle.table_model.specs.declared.entries.Change.{Change}
use Rattle.table_model.specs.declared.entries.Change.TheVariants as change
use Rattle.table_model.specs.declared.entries.Entry.{Entry}
use Rattle.table_model.specs.declared.facts.Facts.{Facts}
use Rattle.table_model.specs.declared.reasons.Why.TheVariants as why
use Rattle.table_model.specs.declared.replies.Answer.{Answer}
use Rattle.table_model.specs.declared.replies.Reply.{Reply}
use Rattle.table_model.specs.Answer.{answer_by, or_refuse, moment_at, entry_of, begin_answer}
use Rattle.table_model.specs.Facts.{facts_of}
use Rattle.table_model.specs.History.{History, sessions_of}
use Rattle.table_model.specs.Look.{look_of}
use Rattle.table_model.specs.Rules.{unless}
use Rattle.table_model.specs.Sessions.{session_of, opened_after, begun}
use Rattle.table_model.specs.Table.{reply_of}
use Rattle.table_model.proofs.SessionLemmas.{session_of-push}
use Rattle.table_engine.specs.Turns.{Allows, entry_added}
use Rattle.turn_table.specs.Turn.{with_entry}
use Rattle.turn_table.specs.View.{View, ActsBy}
use Rattle.drill.specs.Begins.{Begun, number_of}
use Rattle.drill.specs.Table.{columns, restriction, last_session}

same_number : (n : ℕ) → (n == n) ≡ true
same_number n = grind (arith, nat_tests)

is_most : (a b : ℕ) → nat_le a b ≡ true → a ≤ b
is_most a b is = grind (arith, nat_tests)

-- a session of the next number is there behind its entry
begun_here : (history : History) (entry : Entry) (number at roots : ℕ) → entry.change ≡ change.Session number at restriction (all_fields columns) roots
    → session_of (history ++ entry ∷ []) number ≡ Some (begun entry.moment at restriction (all_fields columns) roots)
begun_here history entry number at roots is =
    session_of-push history entry number
    ∙ ap (λ (c : Change). opened_after number (session_of history number) entry.moment c) is
    ∙ ap (λ same. if same then Some (begun entry.moment at restriction (all_fields columns) roots) else session_of history number) (same_number number)

-- the answer by its tests
abbrev begins : Facts → (ℤ → ℕ) → (sessions entries : Bool) → ℤ → Answer
begins facts by sessions entries now =
    or_refuse (unless ((false, why.NegativeCount) ∷ (sessions, why.FullSessions) ∷ (entries, why.FullEntries) ∷ []) (moment_at facts now)) (λ moment.
    begin_answer facts restriction (all_fields columns) (by moment) (roots_of (by moment) 4) moment)

told_by : (history : History) (caller : ℕ) (now : ℤ) (sessions entries : Bool) (told : Reply) (added : Option Entry)
    → nat_le MAX_SESSIONS (sessions_of history) ≡ sessions → nat_le MAX_ENTRIES (length history) ≡ entries
    → told ≡ reply_of (begins (facts_of 2 history caller) (look_of history).visible_by sessions entries now)
    → added ≡ entry_added (begins (facts_of 2 history caller) (look_of history).visible_by sessions entries now)
    → Begun (with_entry history added) (number_of told)
told_by history caller now true entries told added full room told_is added_is =
    subst (λ t. Begun (with_entry history added) (number_of t)) (sym told_is) (subst (λ a. Begun (with_entry history a) 0) (sym added_is)
    (inl (refl, inl (is_most MAX_SESSIONS (sessions_of history) full))))
told_by history caller now false true told added full room told_is added_is =
    subst (λ t. Begun (with_entry history added) (number_of t)) (sym told_is) (subst (λ a. Begun (with_entry history a) 0) (sym added_is)
    (inl (refl, inr (is_most MAX_ENTRIES (length history) room))))
told_by history caller now false false told added full room told_is added_is =
    let facts = facts_of 2 history caller in
    let moment = moment_at facts now in
    let at = (look_of history).visible_by moment in
    let number : ℕ = facts.sessions + 1 in
    let entry : Entry = entry_of facts moment (change.Session number at restriction (all_fields columns) (roots_of at 4)) in
    subst (λ t. Begun (with_entry history added) (number_of t)) (sym told_is) (subst (λ a. Begun (with_entry history a) number) (sym added_is)
    (inr (omega arith, _, begun_here history entry number at (roots_of at 4) refl)))

-- what the reply to the command says of the history behind it
pub told_session : (history : History) (caller : ℕ) (now : ℤ) (told : Reply) (added : Option Entry)
    → Allows columns history caller last_session now told added → Begun (with_entry history added) (number_of told)
unfolding answer_by
told_session history caller now told added allows = told_by history caller now _ _ told added refl refl allows.0 allows.1

-- the command was answered
pub acted : (old new : View Entry (List Column)) (asked : Command) (now : ℤ) (told : Reply) → old.fixed ≡ columns → asked ≡ last_session
    → ActsBy (λ (entry : Entry). entry.caller) Allows old asked now (Ok told) new → Begun new.seen (number_of told)
acted old new asked now told fixed is (point, added, reaches, allows, carries, behind) =
    let here : Allows columns point old.number last_session now told added = subst (λ c. Allows columns point old.number c now told added) is (subst (λ cs. Allows cs point old.number asked now told added) fixed allows) in
    subst (λ (v : View Entry (List Column)). Begun v.seen (number_of told)) (sym behind) (told_session point old.number now told added here)
