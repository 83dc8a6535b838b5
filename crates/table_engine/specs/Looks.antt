-- What a look at a node of a read session tells.
use Rattle.std.specs.Prelude.{◌≡◌, ℕ, List, slice_get, All, Option, Some, None}
use Rattle.column_types.specs.declared.column.Column.{Column}
use Rattle.column_types.specs.Row.{Fits}
use Rattle.column_types.specs.Fields.{IsMadeFor}
use Rattle.column_types.specs.Typed.{IsTyped}
use Rattle.row_groups.specs.Places.{joined}
use Rattle.split_tree.specs.declared.node.Node.{Node}
use Rattle.table_model.specs.History.{History, moment_of}
use Rattle.table_model.specs.Sessions.{Opened, session_of, expiry_of, read_node_of}
use Rattle.table_model.specs.Visible.{visible_of}
use Rattle.table_engine.specs.declared.looks.Held.{Held}
use Rattle.table_engine.specs.declared.looks.Key.{Key}

-- What is held of a node: its rows by a lease, until when they can be read, and the moment of the history.
pub record Holds (columns : List Column) (history : History) (key : Key) (held : Held) : Type 0 where
  pub session : Opened
  pub opened : session_of history key.session ≡ Some session
  pub node : Node
  pub there : slice_get session.nodes.list key.node ≡ Some node
  pub rows : joined held.lease.groups ≡ visible_of history
  pub from : held.lease.lo ≡ node.interval.from
  pub upto : held.lease.hi ≡ node.interval.upto
  pub roots : held.lease.roots ≡ session.nodes.roots
  pub pred : held.lease.pred ≡ session.pred
  pub fields : held.lease.fields ≡ session.fields
  pub expires : held.expires ≡ expiry_of session.moment
  pub moment : held.moment ≡ moment_of history
  pub fit : All (Fits columns) (visible_of history)
  pub typed : IsTyped columns session.pred
  pub made : IsMadeFor columns session.fields

-- nothing is told where the history has no such session, or the session no such node
abbrev pub Looks : List Column → History → Key → Option Held → Type 0
Looks columns history key None = read_node_of history key.session key.node ≡ None
Looks columns history key (Some held) = Holds columns history key held
