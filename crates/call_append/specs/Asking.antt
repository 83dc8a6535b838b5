-- What a message of an AppendRows call asks of its table: one command. Where its rows can't be appended, it asks only
-- whether the write stream is there, since that it isn't counts before what is wrong with the rows.
use Rattle.std.specs.Prelude.{◌≡◌, ℕ, ℤ, ◌≤◌, List, [], length, sum_by, Option, Some, None, Result, Ok, Err}
use Rattle.column_types.specs.declared.cell.Cell.{Cell}
use Rattle.row_decode.specs.declared.faults.RowFault.{RowFault}
use Rattle.row_decode.specs.declared.faults.RowsFault.{RowsFault}
use Rattle.row_decode.specs.declared.faults.RowsFault.TheVariants as fault
use Rattle.row_descriptor.specs.declared.bound.BoundColumn.{BoundColumn}
use Rattle.table_model.specs.declared.commands.Command.{Command}
use Rattle.table_model.specs.declared.commands.Command.TheVariants as command
use Rattle.table_model.specs.declared.reasons.Why.{Why}
use Rattle.table_model.specs.declared.reasons.Why.TheVariants as why
use Rattle.table_model.specs.declared.streams.StreamRef.{StreamRef}
use Rattle.call_append.specs.Writer.{Writer}
use Rattle.call_append.specs.Rows.{rows_or_faults}

-- why the rows can't be appended, and the rows at fault
pub record Faulty : Type 0 where
  pub cause : Why
  pub rows : List RowFault

pub record Asked : Type 0 where
  pub command : Command
  pub faulty : Option Faulty

abbrev pub to_append : Command → Asked
to_append c = record { command = c; faulty = None }

abbrev pub without_rows : StreamRef → Why → List RowFault → Asked
without_rows stream cause faults = record { command = command.Get stream; faulty = Some (record { cause = cause; rows = faults }) }

-- decoded rows, which had this many bytes, or the rows at fault
abbrev pub asked_with : StreamRef → Option ℤ → ℕ → Result (List (List Cell)) (List RowFault) → Asked
asked_with stream offset bytes (Ok rows) = to_append (command.Append stream offset rows bytes)
asked_with stream offset bytes (Err faults) = without_rows stream why.BadRows faults

-- the writer schema comes first
abbrev pub asked_by : StreamRef → Writer → Option ℤ → List (List ℕ) → Asked
asked_by stream (Err cause) offset rows = without_rows stream cause []
asked_by stream (Ok binding) offset rows = asked_with stream offset (sum_by length rows) (rows_or_faults binding rows)

-- the command that appends the rows, or those that are refused, unless memory was wanting
abbrev pub Prepares : StreamRef → List BoundColumn → Option ℤ → List (List ℕ) → Result Command RowsFault → Type 0
Prepares stream binding offset rows (Ok c) = asked_by stream (Ok binding) offset rows ≡ to_append c
Prepares stream binding offset rows (Err (fault.Refused faults)) = (asked_by stream (Ok binding) offset rows ≡ without_rows stream why.BadRows faults) × (length faults ≤ 100)
Prepares stream binding offset rows (Err fault.Memory) = Unit {0}
