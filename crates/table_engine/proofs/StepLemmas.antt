-- The answer to a step.
use Rattle.std.proofs.Common.{◌≡◌, ℕ, ℤ, ◌≤ℤ◌, List, length, Ok, Err, refl, sym, ap, ◌∙◌, subst}
use Rattle.std.specs.Prelude.{Result}
use Rattle.column_types.specs.declared.column.Column.{Column}
use Rattle.outside.specs.declared.wants.Memory.{Memory}
use Rattle.table_model.specs.declared.limits.TheConstants.{LATEST_READING}
use Rattle.table_model.specs.declared.commands.Command.{Command}
use Rattle.table_model.specs.declared.replies.Answer.{Answer}
use Rattle.table_model.specs.declared.replies.Answer.TheVariants.{Accept, Same, Refuse}
use Rattle.table_model.specs.declared.replies.Reply.{Reply}
use Rattle.table_model.specs.History.{History}
use Rattle.table_model.specs.Facts.{facts_of}
use Rattle.table_model.specs.Look.{look_of}
use Rattle.table_model.specs.Answer.{answer_of}
use Rattle.table_model.specs.Accepted.{IsMade}
use Rattle.table_model.specs.Legal.{Takes}
use Rattle.table_model.specs.Table.{Table, IsWithin, Stepped, answer_at, history_after}
use Rattle.table_model.proofs.AcceptedLemmas.{answer_by-Accept}
use Rattle.table_model.proofs.PlainLemmas.{IsWithin-after}
use Rattle.turn_table.specs.Turn.{Steps, Carries, with_entry}
use Rattle.table_engine.specs.Keeps.{CanTake}
use Rattle.table_engine.specs.Turns.{Allows, entry_added}

-- the entry of an answer may be added
pub can_take : (columns : List Column) (history : History) (caller : ℕ) (c : Command) (now : ℤ) (answer : Answer) → IsWithin columns history
    → Takes columns c → now ≤ℤ LATEST_READING → answer ≡ answer_of (length columns) history caller c now → CanTake (record { columns = columns; entries = history }) answer
can_take columns history caller c now (Accept entry told) within taken in_time answered =
    let made = answer_by-Accept (facts_of (length columns) history caller) (look_of history) c now entry told (sym answered) in
    let P : ℕ → Type 0 = λ k. IsMade (facts_of (length columns) history k) (look_of history) entry in
    record {
      room = IsWithin-after columns history caller c now (Accept entry told) within taken in_time answered;
      made = subst P (sym made.caller) made;
    }
can_take columns history caller c now (Same told) within taken in_time answered = tt
can_take columns history caller c now (Refuse refusal) within taken in_time answered = tt

after_is : (history : History) (answer : Answer) → history_after history answer ≡ with_entry history (entry_added answer)
after_is history (Accept entry told) = refl
after_is history (Same told) = refl
after_is history (Refuse refusal) = refl

carried : (columns : List Column) (history : History) (caller : ℕ) (c : Command) (now : ℤ) (answer : Answer) → answer ≡ answer_of (length columns) history caller c now
    → Carries (λ entry. entry.caller) caller (entry_added answer)
carried columns history caller c now (Accept entry told) answered =
    (answer_by-Accept (facts_of (length columns) history caller) (look_of history) c now entry told (sym answered)).caller
carried columns history caller c now (Same told) answered = tt
carried columns history caller c now (Refuse refusal) answered = tt

-- a step of the table is one of the machine
pub steps : (old new : Table) (caller : ℕ) (c : Command) (now : ℤ) (result : Result Reply Memory) → Stepped old new caller c now result
    → Steps (λ entry. entry.caller) (Allows old.columns) old.entries new.entries caller c now result
steps old new caller c now (Ok told) stepped =
    let answer = answer_at old caller c now in (
      entry_added answer,
      (stepped.0, refl),
      carried old.columns old.entries caller c now answer refl,
      ap (λ table. table.entries) stepped.1 ∙ after_is old.entries answer,
    )
steps old new caller c now (Err memory) stepped = ap (λ table. table.entries) stepped

pub columns_stay : (old new : Table) (caller : ℕ) (c : Command) (now : ℤ) (result : Result Reply Memory) → Stepped old new caller c now result → new.columns ≡ old.columns
columns_stay old new caller c now (Ok told) stepped = ap (λ table. table.columns) stepped.1
columns_stay old new caller c now (Err memory) stepped = ap (λ table. table.columns) stepped
