-- The rows of a history are stored: the visible ones in groups, and the others where they wait for their stream.
use Rattle.std.specs.Prelude.{◌≡◌, ℕ, ◌+◌, ◌≤◌, true, List, length, is_some}
use Rattle.column_types.specs.declared.row.Row.{Row}
use Rattle.table_model.specs.declared.streams.StreamRef.{StreamRef}
use Rattle.table_model.specs.History.{History, streams_of}
use Rattle.table_model.specs.Content.{end_of}
use Rattle.table_model.specs.Facts.{committed_of, is_finalised, flushed_of, weight_of}
use Rattle.table_model.specs.Visible.{visible_of}
use Rattle.row_groups.specs.Places.{joined}
use Rattle.table_engine.specs.Waiting.{Waits, hidden_of, waiting_of}

-- `columns` is the number of columns. All rows that are stored are appended ones, each of which has a weight. A stream
-- that is committed takes no more rows, and no more rows of a stream were flushed than it has.
pub record Stored (columns : ℕ) (groups : List (List Row)) (waits : Waits) (history : History) : Type 0 where
  pub shown : joined groups ≡ visible_of history
  pub hidden : (on : StreamRef) → waiting_of waits on ≡ hidden_of history on
  pub streams : length waits ≡ streams_of history
  pub few : length (joined groups) + length (joined waits) ≤ weight_of columns history
  pub closed : (on : StreamRef) → is_some (committed_of history on) ≡ true → is_finalised history on ≡ true
  pub flushed : (on : StreamRef) → flushed_of history on ≤ end_of history on
