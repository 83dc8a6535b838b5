-- The read sessions of a table in the order of their numbers, and what a split of a node changes.
use Rattle.std.specs.Prelude.{◌≡◌, ℕ, ◌-◌, ◌<◌, nat_lt, ◌==◌, Option, None, List, length, if◌then◌else◌}
use Rattle.std.specs.List.{slice_get}
use Rattle.std.specs.Option.{option_map}
use Rattle.split_tree.specs.declared.node.Cut.TheVariants as cut
use Rattle.split_tree.specs.Intervals.{roots_of}
use Rattle.split_tree.specs.Nodes.{cut_of}
use Rattle.table_model.specs.declared.sessions.ReadNode.{ReadNode}
use Rattle.table_model.specs.Sessions.{Opened, node_in, split_at}
use Rattle.table_model.specs.Accepted.{Opens}

abbrev pub Book : Type 0
Book = List Opened

-- sessions are numbered from 1
abbrev pub find : Book → ℕ → Option Opened
find book number = if nat_lt 0 number then slice_get book (number - 1) else None

abbrev pub read_node : Book → (session node : ℕ) → Option ReadNode
read_node book session node = node_in (find book session) node

-- a session over so many rows that asks for some number of roots has these
abbrev pub AreRoots : (at roots : ℕ) → Type 0
AreRoots at roots = (count : ℕ) × (roots ≡ roots_of at count)

-- a node of a session is there and can be split into two
pub record CanCut (session : Opened) (node : ℕ) : Type 0 where
  pub there : node < length session.nodes.list
  pub left : ℕ
  pub right : ℕ
  pub made : cut_of session.nodes node ≡ cut.Made left right

abbrev pub CanSplit : Book → (session node : ℕ) → Type 0
CanSplit book session node = (left right : ℕ) × Opens (read_node book) session node left right

-- A node of one session is split, and no other session is changed.
pub record Splits (old new : Book) (session node : ℕ) : Type 0 where
  pub found : (number : ℕ) → find new number ≡ (if session == number then option_map (split_at node) (find old number) else find old number)
  pub count : length new ≡ length old
