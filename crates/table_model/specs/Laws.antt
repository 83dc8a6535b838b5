-- Laws of the definitions.
use Rattle.std.specs.Prelude.{◌≡◌, ℕ, ◌≤◌, ◌<◌, nat_lt, ℤ, ◌≤ℤ◌, Bool, Some, List, ◌∷◌, ◌++◌, length, map, All, Result, if◌then◌else◌}
use Rattle.std.specs.List.{flat_map}
use Rattle.column_types.specs.declared.column.Column.{Column}
use Rattle.column_types.specs.declared.row.Row.{Row}
use Rattle.column_types.specs.Row.{Fits}
use Rattle.column_types.specs.Typed.{IsTyped}
use Rattle.column_types.specs.Fields.{IsMadeFor}
use Rattle.split_tree.specs.Nodes.{interval_of, children_of, with_splits, IsSplitTree, CanSplit}
use Rattle.split_tree.specs.Cuts.{IsCut}
use Rattle.split_tree.specs.Parts.{rows_of_node, rows_of_session}
use Rattle.outside.specs.declared.wants.Memory.{Memory}
use Rattle.table_model.specs.declared.limits.TheConstants.{LATEST_READING}
use Rattle.table_model.specs.declared.commands.Command.{Command}
use Rattle.table_model.specs.declared.replies.Reply.{Reply}
use Rattle.table_model.specs.declared.entries.Entry.{Entry}
use Rattle.table_model.specs.declared.entries.Change.{Change}
use Rattle.table_model.specs.declared.entries.Change.TheVariants as change
use Rattle.table_model.specs.declared.streams.StreamRef.{StreamRef}
use Rattle.table_model.specs.History.{History}
use Rattle.table_model.specs.Content.{end_of}
use Rattle.table_model.specs.Facts.{facts_of}
use Rattle.table_model.specs.Look.{look_of}
use Rattle.table_model.specs.Visible.{visible_of, sources_of, shown_of, row_at, times}
use Rattle.table_model.specs.Sessions.{Opened, session_of}
use Rattle.table_model.specs.Fits.{EachFits}
use Rattle.table_model.specs.Accepted.{IsMade}
use Rattle.table_model.specs.Legal.{IsLegal, Takes}
use Rattle.table_model.specs.Table.{Table, IsWithin, Stepped}

-- the visible rows of a longer history are those of the shorter one and some more
abbrev pub VisibleRowsGrow : Type 0
VisibleRowsGrow = (history more : History) → (rows : List Row) × (visible_of (history ++ more) ≡ visible_of history ++ rows)

-- each entry of a legal history is one that the history before it permits
abbrev pub EntriesAreMade : Type 0
EntriesAreMade = (columns : List Column) (before : History) (entry : Entry) (more : History) → IsLegal columns (before ++ entry ∷ more)
    → IsMade (facts_of (length columns) before entry.caller) (look_of before) entry

-- an append stands at the end of its stream
abbrev pub StandsAtEnd : History → Change → Type 0
StandsAtEnd before (change.Append on offset rows bytes) = offset ≡ end_of before on
StandsAtEnd before _ = Unit {0}

abbrev pub AppendsStandAtEnd : Type 0
AppendsStandAtEnd = (columns : List Column) (before : History) (entry : Entry) (more : History) → IsLegal columns (before ++ entry ∷ more)
    → StandsAtEnd before entry.change

-- Of the rows of a stream in a legal history, those that are visible stand once among the sources of the visible
-- rows, and no other stands there.
abbrev pub SourcesStandOnce : Type 0
SourcesStandOnce = (columns : List Column) (history : History) → IsLegal columns history → (on : StreamRef) (offset : ℕ)
    → times on offset (sources_of history) ≡ (if nat_lt offset (shown_of history on) then 1 else 0)

-- no source comes twice
abbrev pub NoSourceTwice : Type 0
NoSourceTwice = (columns : List Column) (history : History) → IsLegal columns history → (on : StreamRef) (offset : ℕ)
    → times on offset (sources_of history) ≤ 1

-- the rows at the sources, source by source, are the visible rows
abbrev pub SourcesAreRows : Type 0
SourcesAreRows = (columns : List Column) (history : History) → IsLegal columns history
    → map (row_at history) (sources_of history) ≡ map Some (visible_of history)

-- a step from a legal history leads to a legal one
abbrev pub StepsKeepLegal : Type 0
StepsKeepLegal = (old new : Table) (caller : ℕ) (c : Command) (now : ℤ) (result : Result Reply Memory)
    → Takes old.columns c → now ≤ℤ LATEST_READING → Stepped old new caller c now result
    → IsLegal old.columns old.entries → IsLegal new.columns new.entries

-- each legal history is within the limits of a table: all that it keeps fits the columns, and its moments rise
abbrev pub LegalIsWithin : Type 0
LegalIsWithin = (columns : List Column) (history : History) → IsLegal columns history → IsWithin columns history

-- where all that is kept fits the columns, so do the visible rows
abbrev pub VisibleRowsFit : Type 0
VisibleRowsFit = (columns : List Column) (history : History) → EachFits columns history → All (Fits columns) (visible_of history)

-- and the restriction and the columns of each session
abbrev pub SessionsFit : Type 0
SessionsFit = (columns : List Column) (history : History) (number : ℕ) (session : Opened) → EachFits columns history
    → session_of history number ≡ Some session → IsTyped columns session.pred × IsMadeFor columns session.fields

-- the nodes of each session of a legal history are a tree over rows that are visible
abbrev pub SessionsAreTrees : Type 0
SessionsAreTrees = (columns : List Column) (history : History) (number : ℕ) (session : Opened) → IsLegal columns history
    → session_of history number ≡ Some session → IsSplitTree session.nodes × (session.nodes.at ≤ length (visible_of history))

-- A session of a later history is the one of the earlier history, some of whose nodes were split since. No interval of a
-- node is another.
pub record IsSplitSince (old new : Opened) : Type 0 where
  pub numbers : List ℕ
  pub can : CanSplit old.nodes numbers
  pub now : new ≡ record old { nodes = with_splits old.nodes numbers }
  pub intervals : (node : ℕ) → node < length old.nodes.list → interval_of new.nodes node ≡ interval_of old.nodes node

abbrev pub SessionsStay : Type 0
SessionsStay = (columns : List Column) (history more : History) (number : ℕ) (session : Opened) → IsLegal columns (history ++ more)
    → session_of history number ≡ Some session → (later : Opened) × (session_of (history ++ more) number ≡ Some later) × IsSplitSince session later

-- The rows of the nodes of a cut, one node after another, are those of the session, and the rows of a node are those of
-- its left child and behind them those of its right one.
pub record NodesJoin (Y : Type 0) (history : History) (session : Opened) : Type 0 where
  pub cuts : (cut : List ℕ) → IsCut session.nodes cut → (keep : Row → Bool) (shape : Row → Y)
      → flat_map (λ node. rows_of_node keep shape session.nodes node (visible_of history)) cut ≡ rows_of_session keep shape session.nodes (visible_of history)
  pub children : (node left right : ℕ) → children_of session.nodes node ≡ Some (left, right) → (keep : Row → Bool) (shape : Row → Y)
      → rows_of_node keep shape session.nodes left (visible_of history) ++ rows_of_node keep shape session.nodes right (visible_of history)
      ≡ rows_of_node keep shape session.nodes node (visible_of history)

abbrev pub SessionsJoin : (Y : Type 0) → Type 0
SessionsJoin Y = (columns : List Column) (history : History) (number : ℕ) (session : Opened) → IsLegal columns history
    → session_of history number ≡ Some session → NodesJoin Y history session

-- a node of a session has the same rows at each later history
abbrev pub NodeRowsStay : (Y : Type 0) → Type 0
NodeRowsStay Y = (columns : List Column) (history more : History) (number : ℕ) (session later : Opened) → IsLegal columns (history ++ more)
    → session_of history number ≡ Some session → session_of (history ++ more) number ≡ Some later
    → (node : ℕ) → node < length session.nodes.list → (keep : Row → Bool) (shape : Row → Y)
    → rows_of_node keep shape later.nodes node (visible_of (history ++ more)) ≡ rows_of_node keep shape session.nodes node (visible_of history)
