-- What is held of a node is what the history says.
use Rattle.std.proofs.Common.{◌≡◌, ℕ, ℤ, ◌≤ℤ◌, List, Some, sym, ap, ◌∙◌, subst, arith}
use Rattle.std.specs.Prelude.{slice_get, All}
use Rattle.std.specs.List.{AllByRecursion}
use Rattle.std.proofs.lemmas.Int.{ints}
use Rattle.std.proofs.lemmas.List.Elements.{recursion_from_All}
use Rattle.column_types.specs.declared.column.Column.{Column}
use Rattle.column_types.specs.declared.row.Row.{Row}
use Rattle.column_types.specs.Row.{Fits}
use Rattle.row_groups.specs.Places.{joined}
use Rattle.read_cursor.specs.Lease.{IsReadable, Leased}
use Rattle.split_tree.specs.declared.node.Node.{Node}
use Rattle.table_model.specs.declared.limits.TheConstants.{LATEST_READING}
use Rattle.table_model.specs.History.{History, moment_of}
use Rattle.table_model.specs.Visible.{visible_of}
use Rattle.table_model.specs.Sessions.{Opened, session_of, expiry_of}
use Rattle.table_model.specs.Table.{IsWithin}
use Rattle.table_model.proofs.FitLemmas.{visible_fits, sessions_fit}
use Rattle.read_sessions.proofs.HistoryLemmas.{session_past}
use Rattle.table_engine.specs.declared.looks.Held.{Held}
use Rattle.table_engine.specs.declared.looks.Key.{Key}
use Rattle.table_engine.specs.Looks.{Holds}

le_trans : (a b c : ℤ) → a ≤ℤ b → b ≤ℤ c → a ≤ℤ c
le_trans a b c p q = grind (arith, ints)

pub begun_early : (columns : List Column) (history : History) (number : ℕ) (session : Opened) → IsWithin columns history → session_of history number ≡ Some session
    → session.moment ≤ℤ LATEST_READING
begun_early columns history number session within opened = le_trans session.moment (moment_of history) LATEST_READING (session_past history number session opened) within.in_time

pub readable : (columns : List Column) (history : History) (number : ℕ) (session : Opened) (groups : List (List Row)) → IsWithin columns history
    → session_of history number ≡ Some session → joined groups ≡ visible_of history → IsReadable (joined groups) session.pred session.fields
readable columns history number session groups within opened rows =
    let fits = sessions_fit columns history number session within.fits opened in
    record {
      columns = columns;
      typed = fits.0;
      made = fits.1;
      fit = subst (AllByRecursion (Fits columns)) (sym rows) (recursion_from_All (Fits columns) (visible_of history) (visible_fits columns history within.fits));
    }

pub holds : (columns : List Column) (history : History) (key : Key) (held : Held) (session : Opened) (node : Node) (groups : List (List Row)) (latest : ℤ) → IsWithin columns history
    → session_of history key.session ≡ Some session → slice_get session.nodes.list key.node ≡ Some node → joined groups ≡ visible_of history → latest ≡ moment_of history
    → held.lease ≡ record { groups = groups; lo = node.interval.from; hi = node.interval.upto; roots = session.nodes.roots; pred = session.pred; fields = session.fields }
    → held.expires ≡ expiry_of session.moment → held.moment ≡ latest → Holds columns history key held
holds columns history key held session node groups latest within opened there rows is lease expires moment =
    let fits = sessions_fit columns history key.session session within.fits opened in
    record {
      session = session;
      opened = opened;
      node = node;
      there = there;
      rows = ap (λ l. joined l.groups) lease ∙ rows;
      from = ap (λ l. l.lo) lease;
      upto = ap (λ l. l.hi) lease;
      roots = ap (λ l. l.roots) lease;
      pred = ap (λ l. l.pred) lease;
      fields = ap (λ l. l.fields) lease;
      expires = expires;
      moment = moment ∙ is;
      fit = visible_fits columns history within.fits;
      typed = fits.0;
      made = fits.1;
    }
