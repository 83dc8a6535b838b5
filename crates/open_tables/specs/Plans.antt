-- What a request asks of the tables once its message is read, and what it is answered.
use Rattle.std.specs.Prelude.{◌≡◌, ℕ, ℤ, ◌⊎◌, Bool, List, length, slice_get, set, Option, None, Some}
use Rattle.std.specs.Option.{is_some}
use Rattle.column_types.specs.declared.column.Column.{Column}
use Rattle.table_model.specs.declared.commands.Command.{Command}
use Rattle.table_model.specs.declared.entries.Entry.{Entry}
use Rattle.table_model.specs.declared.replies.Reply.{Reply}
use Rattle.table_model.specs.declared.streams.StreamRef.{StreamRef}
use Rattle.table_model.specs.Facts.{state_of}
use Rattle.table_model.specs.History.{History}
use Rattle.table_model.specs.Answer.{answer_of}
use Rattle.table_model.specs.Table.{reply_of}
use Rattle.table_engine.specs.Turns.{entry_added}
use Rattle.turn_table.specs.Turn.{with_entry}
use Rattle.turn_table.specs.View.{Reaches, seeing}
use Rattle.open_tables.specs.Tables.{TableView}

abbrev pub caller_in : Entry → ℕ
caller_in entry = entry.caller

-- what a table gives: an entry or none, and the answer
pub record Turned (A : Type 0) : Type 0 where
  pub entry : Option Entry
  pub answer : A

-- what a table gives at a history, to a caller at a moment
abbrev pub TurnFor : Type 0 → Type 0
TurnFor A = History → ℕ → ℤ → Turned A

-- What a request asks: an answer that needs no history, or what the table at a place gives.
pub data Plan (A : Type 0) : Type 0 where
  Fixed : A → Plan A
  At : (place : ℕ) → TurnFor A → Plan A

-- a command to a table of these columns, whose reply is told so
abbrev pub on_command : {A : Type 0} → List Column → Command → (Reply → A) → TurnFor A
on_command columns command told history caller now =
    let answer = answer_of (length columns) history caller command now in
    record { entry = entry_added answer; answer = told (reply_of answer) }

-- what is told by whether the table has a write stream
abbrev pub on_stream : {A : Type 0} → StreamRef → (Bool → A) → TurnFor A
on_stream on told history caller now = record { entry = None; answer = told (is_some (state_of history on)) }

-- what is told of a history at a moment; no entry is added
abbrev pub on_history : {A : Type 0} → (History → ℤ → A) → TurnFor A
on_history told history caller now = record { entry = None; answer = told history now }

-- The request is answered at a point of the table's history, and the pass has then seen that with the entry, if there is
-- one.
pub record GetsAt {A : Type 0} (passes : List TableView) (place : ℕ) (turn : TurnFor A) (now : ℤ) (answer : A) (after : List TableView) : Type 0 where
  pub view : TableView
  pub point : History
  pub found : slice_get passes place ≡ Some view
  pub reaches : Reaches caller_in view point
  pub is : answer ≡ (turn point view.number now).answer
  pub behind : after ≡ set passes place (seeing view (with_entry point (turn point view.number now).entry))

-- a plan gets its answer
abbrev pub Gets : {A : Type 0} → List TableView → Plan A → ℤ → A → List TableView → Type 0
Gets passes (Fixed due) now answer after = (answer ≡ due) × (after ≡ passes)
Gets passes (At place turn) now answer after = GetsAt passes place turn now answer after

-- No entry was added: the pass to the table at a place has seen a point of its history.
pub record SeesAt (passes : List TableView) (place : ℕ) (after : List TableView) : Type 0 where
  pub view : TableView
  pub point : History
  pub found : slice_get passes place ≡ Some view
  pub reaches : Reaches caller_in view point
  pub behind : after ≡ set passes place (seeing view point)

-- The answer is lost for want of memory, at a point of the table's history: nothing was done there, or all but the
-- answer.
pub record LosesAt {A : Type 0} (passes : List TableView) (place : ℕ) (turn : TurnFor A) (now : ℤ) (after : List TableView) : Type 0 where
  pub view : TableView
  pub point : History
  pub found : slice_get passes place ≡ Some view
  pub reaches : Reaches caller_in view point
  pub behind : (after ≡ set passes place (seeing view point)) ⊎ (after ≡ set passes place (seeing view (with_entry point (turn point view.number now).entry)))

-- a plan loses its answer; it may not have come to its table
abbrev pub Loses : {A : Type 0} → List TableView → Plan A → ℤ → List TableView → Type 0
Loses passes (Fixed due) now after = after ≡ passes
Loses passes (At place turn) now after = (after ≡ passes) ⊎ LosesAt passes place turn now after
