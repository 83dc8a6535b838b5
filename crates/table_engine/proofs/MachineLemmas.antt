-- What a history allows the machine is what a table accepts.
use Rattle.std.proofs.Common.{◌≡◌, List, [], ◌∷◌, ◌++◌, length, Some, refl, sym, ap, ◌∙◌}
use Rattle.column_types.specs.declared.column.Column.{Column}
use Rattle.table_model.specs.declared.entries.Entry.{Entry}
use Rattle.table_model.specs.declared.replies.Answer.{Answer}
use Rattle.table_model.specs.declared.replies.Answer.TheVariants.{Accept, Same, Refuse}
use Rattle.table_model.specs.History.{History}
use Rattle.table_model.specs.Facts.{facts_of}
use Rattle.table_model.specs.Look.{look_of}
use Rattle.table_model.specs.Answer.{answer_of}
use Rattle.table_model.specs.Legal.{Takes, IsAccepted, EachIsAccepted}
use Rattle.table_model.specs.Table.{reply_of}
use Rattle.table_model.proofs.AcceptedLemmas.{answer_by-Accept}
use Rattle.turn_table.specs.Turn.{IsAllowed, EachIsAllowed}
use Rattle.table_engine.specs.Turns.{Allows, entry_added}
use Rattle.table_engine.specs.Laws.{MachineIsLegal}

accepted : (columns : List Column) (before : History) (entry : Entry) → IsAllowed (Takes columns) (Allows columns) before entry → IsAccepted columns before entry
accepted columns before entry allowed =
    by_answer (answer_of (length columns) before allowed.caller allowed.command allowed.now) refl allowed.allowed.1
  where
    by_answer : (answer : Answer) → answer_of (length columns) before allowed.caller allowed.command allowed.now ≡ answer → Some entry ≡ entry_added answer
        → IsAccepted columns before entry
    by_answer (Accept other told) e added =
        let same : other ≡ entry = cc in
        let made = answer_by-Accept (facts_of (length columns) before allowed.caller) (look_of before) allowed.command allowed.now other told e in
        let caller : entry.caller ≡ allowed.caller = ap (λ x. x.caller) (sym same) ∙ made.caller in
        record {
          asked = allowed.command;
          reading = allowed.now;
          reply = told;
          taken = allowed.taken;
          in_time = allowed.in_time;
          answered = ap (λ k. answer_of (length columns) before k allowed.command allowed.now) caller ∙ e ∙ ap (λ x. Accept x told) same;
        }
    by_answer (Same told) e added = absurd (cc)
    by_answer (Refuse refusal) e added = absurd (cc)

allowed : (columns : List Column) (before : History) (entry : Entry) → IsAccepted columns before entry → IsAllowed (Takes columns) (Allows columns) before entry
allowed columns before entry is = record {
  caller = entry.caller;
  command = is.asked;
  now = is.reading;
  reply = is.reply;
  taken = is.taken;
  in_time = is.in_time;
  allowed = (ap reply_of (sym is.answered), ap entry_added (sym is.answered));
}

each_accepted : (columns : List Column) (first history : History) → EachIsAllowed (Takes columns) (Allows columns) first history → EachIsAccepted columns first history
each_accepted columns first [] each = tt
each_accepted columns first (entry ∷ more) each = (accepted columns first entry each.0, each_accepted columns (first ++ entry ∷ []) more each.1)

each_allowed : (columns : List Column) (first history : History) → EachIsAccepted columns first history → EachIsAllowed (Takes columns) (Allows columns) first history
each_allowed columns first [] each = tt
each_allowed columns first (entry ∷ more) each = (allowed columns first entry each.0, each_allowed columns (first ++ entry ∷ []) more each.1)

pub legal : MachineIsLegal
legal columns history = (each_accepted columns [] history, each_allowed columns [] history)
