-- The rows that the entries so far show.
use Rattle.std.proofs.Common.{◌≡◌, length, take}
use Rattle.table_model.specs.Visible.{visible_of}
use Rattle.table_model.proofs.visible_walks.visible_by.Given as goal

abbrev pub invariant-loop-i : goal.invariant-loop-i
invariant-loop-i l = l.count ≡ length (visible_of (take l.i l.entries))
