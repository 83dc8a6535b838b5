-- An entry that shows no row needs no snapshot.
use Rattle.std.proofs.Common.{◌≡◌, ◌++◌, ◌∷◌, [], length, arith}
use Rattle.table_model.specs.Visible.{visible_of}
use Rattle.read_sessions.proofs.HistoryLemmas.{fewer_before}
use Rattle.read_sessions.proofs.SnapshotLemmas.{Tells-quiet}
use Rattle.table_engine.proofs.changes.note_rows.Goals as goal

pub returns-else-before-visible : goal.returns-else-before-visible
returns-else-before-visible c history entry tells next at before visible =
    let grows = fewer_before history (entry ∷ []) in
    let none = c.if-before-visible.false in
    let same : length (visible_of (history ++ entry ∷ [])) ≡ length (visible_of history) = omega (arith, grows, before, visible, none) in
    Tells-quiet c.args.snapshots.now.list history entry tells next same
