-- What a history allows a machine that answers as the definition does.
use Rattle.std.specs.Prelude.{◌≡◌, ℕ, ℤ, Option, None, Some, List, length}
use Rattle.column_types.specs.declared.column.Column.{Column}
use Rattle.table_model.specs.declared.commands.Command.{Command}
use Rattle.table_model.specs.declared.entries.Entry.{Entry}
use Rattle.table_model.specs.declared.replies.Answer.{Answer}
use Rattle.table_model.specs.declared.replies.Answer.TheVariants.{Accept, Same, Refuse}
use Rattle.table_model.specs.declared.replies.Reply.{Reply}
use Rattle.table_model.specs.History.{History}
use Rattle.table_model.specs.Answer.{answer_of}
use Rattle.table_model.specs.Table.{reply_of}

-- the entry of an answer, if it has one
abbrev pub entry_added : Answer → Option Entry
entry_added (Accept entry told) = Some entry
entry_added (Same told) = None
entry_added (Refuse refusal) = None

-- the one reply of the definition, with its entry or none
abbrev pub Allows : List Column → History → ℕ → Command → ℤ → Reply → Option Entry → Type 0
Allows columns history caller c now reply added =
    let answer = answer_of (length columns) history caller c now in
    (reply ≡ reply_of answer) × (added ≡ entry_added answer)
