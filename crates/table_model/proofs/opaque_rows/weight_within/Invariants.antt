-- What is left of the room is what the rows so far don't weigh.
use Rattle.std.proofs.Common.{◌≡◌, ◌+◌, take}
use Rattle.table_model.specs.Opaque.{weight_of}
use Rattle.table_model.proofs.opaque_rows.weight_within.Given as goal

abbrev pub invariant-loop-row : goal.invariant-loop-row
invariant-loop-row l = l.left + weight_of (take l.row-index l.rows) ≡ l.room
