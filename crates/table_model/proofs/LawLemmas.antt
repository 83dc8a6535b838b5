-- What a history says stands when entries follow.
use Rattle.std.proofs.Common.{◌≡◌, Bool, true, false, List, [], ◌∷◌, ◌++◌, length, None, Some, refl, sym, ap, ◌∙◌, append_assoc, ℤ, ◌≤ℤ◌, Ok, Err, subst, ℕ}
use Rattle.std.specs.Prelude.{if◌then◌else◌}
use Rattle.std.proofs.lemmas.List.{append-nil}
use Rattle.column_types.specs.declared.column.Column.{Column}
use Rattle.table_model.specs.declared.limits.TheConstants.{LATEST_READING}
use Rattle.table_model.specs.declared.commands.Command.{Command}
use Rattle.table_model.specs.declared.replies.Answer.{Answer}
use Rattle.table_model.specs.declared.replies.Answer.TheVariants.{Accept, Same, Refuse}
use Rattle.table_model.specs.declared.entries.Entry.{Entry}
use Rattle.table_model.specs.declared.entries.Change.{Change}
use Rattle.table_model.specs.declared.entries.Change.TheVariants as change
use Rattle.table_model.specs.declared.facts.Facts.{Facts}
use Rattle.table_model.specs.declared.streams.StreamRef.{StreamRef}
use Rattle.table_model.specs.declared.streams.StreamState.{StreamState}
use Rattle.table_model.specs.Answer.{answer_of}
use Rattle.table_model.specs.Table.{Table, answer_at, history_after}
use Rattle.table_model.specs.History.{History}
use Rattle.table_model.specs.Facts.{facts_of, has_stream, state_in, state_of}
use Rattle.table_model.specs.Look.{look_of}
use Rattle.table_model.specs.Visible.{gather, rows_shown}
use Rattle.table_model.specs.Accepted.{Makes}
use Rattle.table_model.specs.Legal.{IsAccepted, EachIsAccepted, IsLegal, Takes}
use Rattle.table_model.specs.Laws.{VisibleRowsGrow, EntriesAreMade, StandsAtEnd, AppendsStandAtEnd, StepsKeepLegal}
use Rattle.table_model.proofs.AcceptedLemmas.{answer_by-Accept}

pub gather-append : {A : Type 0} (added : History → Change → List A) (before history more : History)
    → gather added before (history ++ more) ≡ gather added before history ++ gather added (before ++ history) more
gather-append added before [] more = ap (λ h. gather added h more) (sym (append-nil before))
gather-append added before (entry ∷ history) more =
    ap (λ rest. added before entry.change ++ rest) (
    gather-append added (before ++ entry ∷ []) history more
    ∙ ap (λ h. gather added (before ++ entry ∷ []) history ++ gather added h more) (append_assoc before (entry ∷ []) history))
    ∙ sym (append_assoc (added before entry.change) (gather added (before ++ entry ∷ []) history) (gather added (before ++ entry ∷ history) more))

pub grows : VisibleRowsGrow
grows history more = (gather rows_shown history more, gather-append rows_shown [] history more)

-- an entry among others was accepted at the history before it
accepted_at : (columns : List Column) (first before : History) (entry : Entry) (more : History)
    → EachIsAccepted columns first (before ++ entry ∷ more) → IsAccepted columns (first ++ before) entry
accepted_at columns first [] entry more each = rw (append-nil first) each.0
accepted_at columns first (other ∷ before) entry more each =
    rw (← append_assoc first (other ∷ []) before) (accepted_at columns (first ++ other ∷ []) before entry more each.1)

pub made : EntriesAreMade
made columns before entry more legal =
    let accepted = accepted_at columns [] before entry more legal in
    answer_by-Accept (facts_of (length columns) before entry.caller) (look_of before) accepted.asked accepted.reading entry accepted.reply accepted.answered

-- what is told of a stream that is there
pub state_of-Some : (history : History) (on : StreamRef) (state : StreamState) → state_of history on ≡ Some state → (has_stream history on ≡ true) × (state_in history on ≡ state)
state_of-Some history on state there = either (has_stream history on) there
  where
    either : (b : Bool) → (if b then Some (state_in history on) else None) ≡ Some state → (b ≡ true) × (state_in history on ≡ state)
    either true h = (refl, cc)
    either false h = absurd (cc)

stands_at_end : (facts : Facts) (before : History) (c : Change) → Makes facts (look_of before) c → StandsAtEnd before c
stands_at_end facts before (change.Append on offset rows bytes) makes =
    makes.at_end ∙ ap (λ state. state.rows) (sym (state_of-Some before on makes.state makes.there).1)
stands_at_end facts before (change.Create number kind) makes = tt
stands_at_end facts before (change.Flush on upto) makes = tt
stands_at_end facts before (change.Finalise on) makes = tt
stands_at_end facts before (change.Commit streams) makes = tt
stands_at_end facts before (change.Session number at pred fields roots) makes = tt
stands_at_end facts before (change.Split session node left right) makes = tt

pub at_end : AppendsStandAtEnd
at_end columns before entry more legal =
    stands_at_end (facts_of (length columns) before entry.caller) before entry.change (made columns before entry more legal).makes

-- one entry more, accepted at the whole history
legal-push : (columns : List Column) (first history : History) (entry : Entry) → EachIsAccepted columns first history
    → IsAccepted columns (first ++ history) entry → EachIsAccepted columns first (history ++ entry ∷ [])
legal-push columns first [] entry each accepted = (rw (append-nil first) at accepted, tt)
legal-push columns first (earlier ∷ history) entry each accepted =
    (each.0, legal-push columns (first ++ earlier ∷ []) history entry each.1 (rw (append_assoc first (earlier ∷ []) history) accepted))

legal_after : (columns : List Column) (history : History) (caller : ℕ) (c : Command) (now : ℤ) (answer : Answer)
    → answer_of (length columns) history caller c now ≡ answer → Takes columns c → now ≤ℤ LATEST_READING
    → IsLegal columns history → IsLegal columns (history_after history answer)
legal_after columns history caller c now (Accept entry told) e taken in_time legal =
    let is = answer_by-Accept (facts_of (length columns) history caller) (look_of history) c now entry told e in
    legal-push columns [] history entry legal (record {
      asked = c;
      reading = now;
      reply = told;
      taken = taken;
      in_time = in_time;
      answered = ap (λ k. answer_of (length columns) history k c now) is.caller ∙ e;
    })
legal_after columns history caller c now (Same told) e taken in_time legal = legal
legal_after columns history caller c now (Refuse refusal) e taken in_time legal = legal

pub keeps_legal : StepsKeepLegal
keeps_legal old new caller c now (Ok told) taken in_time stepped legal =
    let P : Table → Type 0 = λ t. IsLegal t.columns t.entries in
    subst P (sym stepped.1) (legal_after old.columns old.entries caller c now (answer_at old caller c now) refl taken in_time legal)
keeps_legal old new caller c now (Err memory) taken in_time stepped legal =
    let P : Table → Type 0 = λ t. IsLegal t.columns t.entries in
    subst P (sym stepped) legal
