-- What a history says of read sessions: over which of the visible rows each is, and how its nodes are cut.
use Rattle.std.specs.Prelude.{ℕ, ◌≤◌, ℤ, ◌+ℤ◌, Bool, ◌==◌, int_le, List, length, filter, fold, slice_get, Option, None, Some, option_map, if◌then◌else◌}
use Rattle.column_types.specs.declared.predicate.Pred.{Pred}
use Rattle.split_tree.specs.declared.node.TheConstants.{MOST_ROOTS}
use Rattle.split_tree.specs.Nodes.{Nodes, root_nodes, with_split}
use Rattle.table_model.specs.declared.limits.TheConstants.{SESSION_LIFETIME}
use Rattle.table_model.specs.declared.entries.Change.{Change}
use Rattle.table_model.specs.declared.entries.Change.TheVariants as change
use Rattle.table_model.specs.declared.sessions.ReadNode.{ReadNode}
use Rattle.table_model.specs.History.{History}
use Rattle.table_model.specs.Visible.{visible_of}

-- ---- snapshots

-- the entries that were accepted by a moment
abbrev pub accepted_by : History → ℤ → History
accepted_by history moment = filter (λ entry. int_le entry.moment moment) history

-- how many rows were visible then
abbrev pub visible_by : History → ℤ → ℕ
visible_by history moment = length (visible_of (accepted_by history moment))

-- ---- sessions

-- A session that was begun: when, the restriction and the columns of its rows, and its nodes over the first of the
-- visible rows.
pub record Opened : Type 0 where
  pub moment : ℤ
  pub pred : Pred
  pub fields : List ℕ
  pub nodes : Nodes

abbrev pub begun : (moment : ℤ) (at : ℕ) (pred : Pred) (fields : List ℕ) (roots : ℕ) → Opened
begun moment at pred fields roots = record { moment = moment; pred = pred; fields = fields; nodes = root_nodes at roots }

abbrev pub split_at : (node : ℕ) → Opened → Opened
split_at node session = record session { nodes = with_split session.nodes node }

-- a session has so many roots at most
abbrev pub HasFewRoots : Change → Type 0
HasFewRoots (change.Session session at pred fields roots) = roots ≤ MOST_ROOTS
HasFewRoots _ = Unit {0}

-- the session of a number, behind an entry
abbrev pub opened_after : ℕ → Option Opened → (moment : ℤ) → Change → Option Opened
opened_after number before moment (change.Session session at pred fields roots) =
    if session == number then Some (begun moment at pred fields roots) else before
opened_after number before moment (change.Split session node left right) =
    if session == number then option_map (split_at node) before else before
opened_after number before moment _ = before

-- the session of this number, if it was begun
unfoldable pub session_of : History → ℕ → Option Opened
session_of history number = fold (λ before entry. opened_after number before entry.moment entry.change) None history

-- a node of a session, if both are there
abbrev pub node_in : Option Opened → ℕ → Option ReadNode
node_in None number = None
node_in (Some session) number =
    option_map (λ node. record { moment = session.moment; node = node; nodes = length session.nodes.list }) (slice_get session.nodes.list number)

abbrev pub read_node_of : History → (session node : ℕ) → Option ReadNode
read_node_of history session node = node_in (session_of history session) node

-- ---- expiry

-- from when on a session that was begun at this moment can't be read
abbrev pub expiry_of : (moment : ℤ) → ℤ
expiry_of moment = moment +ℤ SESSION_LIFETIME

abbrev pub is_expired : (moment now : ℤ) → Bool
is_expired moment now = int_le (expiry_of moment) now
