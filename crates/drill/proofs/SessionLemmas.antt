-- What other passes' entries leave of a session that is read.
use Rattle.std.proofs.Common.{◌≡◌, ℕ, ◌<◌, List, [], ◌∷◌, ◌++◌, length, map, Some, sym, ap, ◌∙◌, subst}
use Rattle.std.specs.List.{AllByRecursion}
use Rattle.column_types.specs.declared.column.Column.{Column}
use Rattle.column_types.specs.Fields.{projected}
use Rattle.split_tree.specs.Nodes.{with_splits, IsSplitTree}
use Rattle.split_tree.specs.Parts.{rows_of_node}
use Rattle.split_tree.proofs.Later.{later_intervals, later_children, later_roots}
use Rattle.read_cursor.specs.Lease.{keeps}
use Rattle.table_model.specs.History.{History}
use Rattle.table_model.specs.Sessions.{Opened, session_of}
use Rattle.table_model.specs.Visible.{visible_of}
use Rattle.table_model.specs.Legal.{IsLegal, EachIsAccepted}
use Rattle.table_model.specs.Laws.{IsSplitSince}
use Rattle.table_model.proofs.SessionLemmas.{are_trees, stay, rows_stay}
use Rattle.drill.specs.declared.drain_parts.Part.{Part}
use Rattle.drill.specs.declared.moves.Move.{Move}
use Rattle.drill.specs.Drains.{node_rows}
use Rattle.drill.specs.Parts.{Stands, AreFirst, node_in, rows_in}
use Rattle.drill.proofs.CutLemmas.{Grown, moves_cut, moves_stay, cut_there}

-- what a legal history began with is legal
accepted_front : (columns : List Column) (before history more : History) → EachIsAccepted columns before (history ++ more) → EachIsAccepted columns before history
accepted_front columns before [] more each = tt
accepted_front columns before (entry ∷ history) more each = (each.0, accepted_front columns (before ++ entry ∷ []) history more each.1)

pub legal_front : (columns : List Column) (history more : History) → IsLegal columns (history ++ more) → IsLegal columns history
legal_front columns history more legal = accepted_front columns [] history more legal

-- A session behind later entries: its nodes that were there have their rows.
pub record Later (old new : History) (number : ℕ) (session : Opened) : Type 0 where
  pub now : Opened
  pub begun : session_of new number ≡ Some now
  pub moment : now.moment ≡ session.moment
  pub grown : Grown session.nodes now.nodes
  pub rows : (node : ℕ) → node < length session.nodes.list → node_rows now new node ≡ node_rows session old node

pub later : (columns : List Column) (history more : History) (number : ℕ) (session : Opened) → IsLegal columns (history ++ more) → session_of history number ≡ Some session
    → Later history (history ++ more) number session
later columns history more number session legal begun =
    let stays = stay columns history more number session legal begun in
    let since : IsSplitSince session stays.0 = stays.2 in
    let is : stays.0 ≡ record session { nodes = with_splits session.nodes since.numbers } = since.now in
    record {
      now = stays.0;
      begun = stays.1;
      moment = ap (λ (s : Opened). s.moment) is;
      grown = subst (λ (s : Opened). Grown session.nodes s.nodes) (sym is) (record {
        roots = (later_roots session.nodes since.numbers).0;
        intervals = later_intervals session.nodes since.numbers;
        children = later_children session.nodes since.numbers since.can;
      });
      rows = λ node here.
          ap (λ (s : Opened). rows_of_node (keeps s.pred) (projected s.fields) stays.0.nodes node (visible_of (history ++ more))) is
          ∙ rows_stay columns history more number session stays.0 legal begun stays.1 node here (keeps session.pred) (projected session.fields);
    }

pub tree_of : (columns : List Column) (history : History) (number : ℕ) (session : Opened) → IsLegal columns history → session_of history number ≡ Some session → IsSplitTree session.nodes
tree_of columns history number session legal begun = (are_trees columns history number session legal begun).0

-- the nodes of the parts are nodes of the session
pub parts_there : (columns : List Column) (history : History) (number : ℕ) (moves : List Move) (parts : List Part) → IsLegal columns history → (stands : Stands history number moves parts)
    → AllByRecursion (λ part. part.node < length stands.session.nodes.list) parts
parts_there columns history number moves parts legal stands =
    of_map (length stands.session.nodes.list) parts (cut_there stands.session.nodes [] (map node_in parts) (tree_of columns history number stands.session legal stands.begun)
    (moves_cut stands.session.nodes moves (map node_in parts) stands.cut))
  where
    of_map : (n : ℕ) (parts : List Part) → AllByRecursion (λ number. number < n) (map node_in parts) → AllByRecursion (λ (part : Part). part.node < n) parts
    of_map n [] all = tt
    of_map n (part ∷ parts) all = (all.0, of_map n parts all.1)

first_stay : (old new : History) (number : ℕ) (session : Opened) (after : Later old new number session) (parts : List Part)
    → AllByRecursion (λ (part : Part). part.node < length session.nodes.list) parts
    → AllByRecursion (λ part. AreFirst (rows_in part) (node_rows session old part.node)) parts
    → AllByRecursion (λ part. AreFirst (rows_in part) (node_rows after.now new part.node)) parts
first_stay old new number session after [] there first = tt
first_stay old new number session after (part ∷ parts) there first = (
  subst (AreFirst (rows_in part)) (sym (after.rows part.node there.0)) first.0,
  first_stay old new number session after parts there.1 first.1,
)

-- the cut stands behind later entries
pub stands_later : (columns : List Column) (history more : History) (number : ℕ) (moves : List Move) (parts : List Part) → IsLegal columns (history ++ more)
    → Stands history number moves parts → Stands (history ++ more) number moves parts
stands_later columns history more number moves parts legal stands =
    let before = legal_front columns history more legal in
    let after = later columns history more number stands.session legal stands.begun in
    record {
      session = after.now;
      begun = after.begun;
      cut = moves_stay stands.session.nodes after.now.nodes moves (map node_in parts) (tree_of columns history number stands.session before stands.begun) after.grown stands.cut;
      first = first_stay history (history ++ more) number stands.session after parts (parts_there columns history number moves parts before stands) stands.first;
      some = stands.some;
    }
