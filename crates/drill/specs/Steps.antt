-- What the steps of a drain come to, at the histories that its pass has seen.
use Rattle.std.specs.Prelude.{◌≡◌, ℕ, ◌<◌, ◌≤◌, ◌<ℤ◌, int_le, List, ◌++◌, length, drop, Option, Some, None, Result, Ok, Err, if◌then◌else◌}
use Rattle.std.specs.List.{flat_map}
use Rattle.outside.specs.declared.wants.Memory.{Memory}
use Rattle.column_types.specs.declared.column.Column.{Column}
use Rattle.column_types.specs.declared.row.Row.{Row}
use Rattle.split_tree.specs.Intervals.{size}
use Rattle.split_tree.specs.Nodes.{interval_of, children_of}
use Rattle.read_cursor.specs.Lease.{Leased}
use Rattle.table_model.specs.declared.replies.Reply.{Reply}
use Rattle.table_model.specs.declared.replies.Reply.TheVariants as reply
use Rattle.table_model.specs.History.{History, moment_of}
use Rattle.table_model.specs.Sessions.{Opened, session_of, expiry_of, read_node_of}
use Rattle.table_engine.specs.declared.looks.Held.{Held}
use Rattle.drill.specs.declared.drained.Drained.{Drained}
use Rattle.drill.specs.declared.drained.DrainFault.{DrainFault}
use Rattle.drill.specs.declared.drained.DrainFault.TheVariants as fault
use Rattle.drill.specs.declared.drain_parts.Part.{Part}
use Rattle.drill.specs.declared.drain_steps.Split.{Split}
use Rattle.drill.specs.declared.drain_steps.Split.TheVariants as split
use Rattle.drill.specs.declared.moves.Move.{Move}
use Rattle.drill.specs.Drains.{IsExpired, Fails, IsRefused, node_rows}
use Rattle.drill.specs.Parts.{Stands}
use Rattle.drill.specs.Reads.{rows_behind}

-- ---- a look

-- the lease of a node that a look found, where the session hasn't expired
abbrev pub lease_in : Result (Option Held) Memory → Result Leased DrainFault
lease_in (Ok (Some held)) = if int_le held.expires held.moment then Err (fault.Expired held.moment held.expires) else Ok held.lease
lease_in (Ok None) = Err fault.NoSession
lease_in (Err memory) = Err fault.Memory

-- The lease is that of a node of a session that hasn't expired.
pub record IsOpen (history : History) (number node : ℕ) (lease : Leased) : Type 0 where
  pub session : Opened
  pub begun : session_of history number ≡ Some session
  pub there : node < length session.nodes.list
  pub early : moment_of history <ℤ expiry_of session.moment
  pub rows : (at : ℕ) → rows_behind lease at ≡ drop at (node_rows session history node)
  pub roots : lease.roots ≡ session.nodes.roots

abbrev pub LookFails : History → (number node : ℕ) → DrainFault → Type 0
LookFails history number node fault.Memory = Unit {0}
LookFails history number node fault.NoSession = read_node_of history number node ≡ None
LookFails history number node (fault.Expired moment expires) = IsExpired history number moment expires
LookFails history number node (fault.Refused told) = ⊥

abbrev pub Looked : History → (number node : ℕ) → Result Leased DrainFault → Type 0
Looked history number node (Ok lease) = IsOpen history number node lease
Looked history number node (Err fault) = LookFails history number node fault

-- ---- a split

-- The node of the session is split into these two.
pub record IsParent (history : History) (number node left right : ℕ) : Type 0 where
  pub session : Opened
  pub begun : session_of history number ≡ Some session
  pub rows : 2 ≤ size (interval_of session.nodes node)
  pub children : children_of session.nodes node ≡ Some (left, right)

-- The node of the session has one row or none.
pub record IsSmall (history : History) (number node : ℕ) : Type 0 where
  pub session : Opened
  pub begun : session_of history number ≡ Some session
  pub rows : size (interval_of session.nodes node) < 2

-- what the reply to a split says of the history behind it
abbrev pub ToldSplit : List Column → (caller : ℕ) → History → (number node : ℕ) → Reply → Type 0
ToldSplit columns caller history number node (reply.Children left right) = IsParent history number node left right
ToldSplit columns caller history number node reply.NoSplit = IsSmall history number node
ToldSplit columns caller history number node (reply.Refused refusal) = IsRefused columns caller history number (reply.Refused refusal)
ToldSplit columns caller history number node _ = ⊥

-- what a split came to
abbrev pub split_by : Reply → Result Split DrainFault
split_by (reply.Children left right) = Ok (split.Children left right)
split_by reply.NoSplit = Ok split.Small
split_by told = Err (fault.Refused told)

abbrev pub split_in : Result Reply Memory → Result Split DrainFault
split_in (Ok told) = split_by told
split_in (Err memory) = Err fault.Memory

-- what that says of the history behind it
abbrev pub SaysSplit : List Column → (caller : ℕ) → History → (number node : ℕ) → Result Split DrainFault → Type 0
SaysSplit columns caller history number node (Ok (split.Children left right)) = IsParent history number node left right
SaysSplit columns caller history number node (Ok split.Small) = IsSmall history number node
SaysSplit columns caller history number node (Err fault) = Fails columns caller history number fault

-- ---- to the end

-- The first parts were read to their ends, the last of them while the session hadn't expired.
pub record ReadsAll (history : History) (number : ℕ) (moves : List Move) (parts rest : List Part) (rows : List Row) : Type 0 where
  pub stands : Stands history number moves parts
  pub done : List Part
  pub parts_are : parts ≡ done ++ rest
  pub rows_are : rows ≡ flat_map (λ part. node_rows stands.session history part.node) done
  pub early : 0 < length done → moment_of history <ℤ expiry_of stands.session.moment

-- what was drained, where there was memory for the nodes
abbrev pub drained_by : Result (List ℕ) Memory → Result (List Row) DrainFault → Result Drained DrainFault
drained_by nodes (Err fault) = Err fault
drained_by (Err memory) (Ok rows) = Err fault.Memory
drained_by (Ok nodes) (Ok rows) = Ok (record { nodes = nodes; rows = rows })
