-- The sum so far, which is no further from 0 than each row can take it.
use Rattle.std.proofs.Common.{◌≡◌, ◌*◌, ◌^◌, take, pos}
use Rattle.std.specs.Prelude.{◌+ℤ◌, ◌≤ℤ◌}
use Rattle.drill.specs.Summary.{sum_of}
use Rattle.drill.proofs.lines.sum_of.Given as goal

abbrev pub invariant-loop-row : goal.invariant-loop-row
invariant-loop-row l =
    (l.sum ≡ sum_of (take l.row-index l.rows)) × (pos 0 ≤ℤ (l.sum +ℤ pos (l.row-index * 2 ^ 63))) × (l.sum ≤ℤ pos (l.row-index * 2 ^ 63))
