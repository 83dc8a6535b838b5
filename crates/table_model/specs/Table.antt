-- A table: its columns and its history, and what a step of it does.
use Rattle.std.specs.Prelude.{◌≡◌, ℕ, ◌*◌, ◌≤◌, ℤ, pos, ◌≤ℤ◌, All, List, [], ◌∷◌, ◌++◌, length, Result, Ok, Err}
use Rattle.column_types.specs.declared.column.Column.{Column}
use Rattle.outside.specs.declared.wants.Memory.{Memory}
use Rattle.table_model.specs.declared.limits.TheConstants.{LATEST_READING, MAX_ENTRIES, MAX_WEIGHT}
use Rattle.table_model.specs.declared.commands.Command.{Command}
use Rattle.table_model.specs.declared.replies.Answer.{Answer}
use Rattle.table_model.specs.declared.replies.Answer.TheVariants.{Accept, Same, Refuse}
use Rattle.table_model.specs.declared.replies.Reply.{Reply}
use Rattle.table_model.specs.declared.replies.Reply.TheVariants as reply
use Rattle.table_model.specs.History.{History, moment_of}
use Rattle.table_model.specs.Fits.{EachFits, RisesFrom}
use Rattle.table_model.specs.Facts.{weight_of}
use Rattle.table_model.specs.Sessions.{HasFewRoots}
use Rattle.table_model.specs.Visible.{visible_of}
use Rattle.table_model.specs.Answer.{answer_of}

pub record Table : Type 0 where
  pub columns : List Column
  pub entries : History

-- The history is within the limits of a table, all that it keeps fits the columns, its moments rise up to a reading of a
-- clock, its sessions have few roots, and none of its entries shows more rows than all may weigh.
pub record IsWithin (columns : List Column) (history : History) : Type 0 where
  pub few : length history ≤ MAX_ENTRIES
  pub light : weight_of (length columns) history ≤ MAX_WEIGHT
  pub fits : EachFits columns history
  pub rises : RisesFrom (pos 0) history
  pub in_time : moment_of history ≤ℤ LATEST_READING
  pub rooted : All (λ entry. HasFewRoots entry.change) history
  pub shown : length (visible_of history) ≤ length history * MAX_WEIGHT

abbrev pub reply_of : Answer → Reply
reply_of (Accept entry told) = told
reply_of (Same told) = told
reply_of (Refuse refusal) = reply.Refused refusal

-- the history behind an answer
abbrev pub history_after : History → Answer → History
history_after history (Accept entry told) = history ++ entry ∷ []
history_after history (Same told) = history
history_after history (Refuse refusal) = history

abbrev pub answer_at : Table → ℕ → Command → ℤ → Answer
answer_at table caller c now = answer_of (length table.columns) table.entries caller c now

-- The history behind an answer is within the limits.
abbrev pub HasRoom : Table → Answer → Type 0
HasRoom table answer = IsWithin table.columns (history_after table.entries answer)

-- The reply of the answer is given and its entry, if it has one, is added. Want of memory keeps the table.
abbrev pub Taken : Table → Table → Answer → Result Reply Memory → Type 0
Taken old new answer (Ok told) = (told ≡ reply_of answer) × (new ≡ record old { entries = history_after old.entries answer })
Taken old new answer (Err memory) = new ≡ old

abbrev pub Stepped : Table → Table → ℕ → Command → ℤ → Result Reply Memory → Type 0
Stepped old new caller c now result = Taken old new (answer_at old caller c now) result
