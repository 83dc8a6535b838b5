-- A legal history is empty, or a legal one with the entry that the answer to a command accepts.
use Rattle.std.specs.Prelude.{◌≡◌, ◌<◌, ◌≤◌, ◌^◌, ℤ, ◌≤ℤ◌, List, [], ◌∷◌, ◌++◌, length, sum_by, All}
use Rattle.column_types.specs.declared.column.Column.{Column}
use Rattle.column_types.specs.Row.{Fits}
use Rattle.column_types.specs.Sizes.{bytes_of_row}
use Rattle.column_types.specs.Typed.{IsTyped}
use Rattle.column_types.specs.Fields.{IsMadeFor}
use Rattle.table_model.specs.declared.limits.TheConstants.{LATEST_READING}
use Rattle.table_model.specs.declared.commands.Command.{Command}
use Rattle.table_model.specs.declared.commands.Command.TheVariants as command
use Rattle.table_model.specs.declared.entries.Entry.{Entry}
use Rattle.table_model.specs.declared.replies.Answer.TheVariants.{Accept}
use Rattle.table_model.specs.declared.replies.Reply.{Reply}
use Rattle.table_model.specs.History.{History}
use Rattle.table_model.specs.Answer.{answer_of}

-- The rows of an append fit the columns, and the bytes of their texts are at most its `bytes`. The restriction of a session
-- is typed, and its columns are chosen among the table's.
abbrev pub FitsTable : List Column → Command → Type 0
FitsTable columns (command.Append on offset rows bytes) = All (Fits columns) rows × (sum_by bytes_of_row rows ≤ bytes)
FitsTable columns (command.Session pred fields count snapshot) = IsTyped columns pred × IsMadeFor columns fields
FitsTable columns _ = Unit {0}

-- A commit names fewer than 2^32 streams.
abbrev pub HasPlaces : Command → Type 0
HasPlaces (command.Commit streams) = length streams < 2 ^ 32
HasPlaces _ = Unit {0}

-- A table takes a command.
pub record Takes (columns : List Column) (c : Command) : Type 0 where
  pub fits : FitsTable columns c
  pub places : HasPlaces c

-- An entry is accepted at a history.
pub record IsAccepted (columns : List Column) (before : History) (entry : Entry) : Type 0 where
  pub asked : Command
  pub reading : ℤ
  pub reply : Reply
  pub taken : Takes columns asked
  pub in_time : reading ≤ℤ LATEST_READING
  pub answered : answer_of (length columns) before entry.caller asked reading ≡ Accept entry reply

abbrev pub EachIsAccepted : List Column → History → History → Type 0
EachIsAccepted columns before [] = Unit {0}
EachIsAccepted columns before (entry ∷ more) =
    IsAccepted columns before entry × EachIsAccepted columns (before ++ entry ∷ []) more

abbrev pub IsLegal : List Column → History → Type 0
IsLegal columns history = EachIsAccepted columns [] history
