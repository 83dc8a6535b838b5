-- Behind a number outside the days no day is spelled.
use Rattle.std.proofs.Math.Facts.{sfits_lit}
use Rattle.column_types.specs.declared.ranges.TheConstants.{FIRST_DAY, LAST_DAY}
use Rattle.avro_rows.proofs.CellLemmas.{day-none, low-fails, high-fails}
use Rattle.avro_rows.proofs.cells.date_at.Goals as goal
use Rattle.avro_rows.proofs.cells.date_at.Goals.{else-from-day-via-then-from-day+else-day-from, else-from-day-via-else-from-day}

pub returns-else-from-day : goal.returns-else-from-day
returns-else-from-day c =
    day-none _ _ c.in-Some.day c.in-Some.ensures.1
    (elim c.else-from-day.branch [
      | else-from-day-via-then-from-day+else-day-from w ↦
          high-fails w.from-then-from-day.result LAST_DAY c.in-Some.day _ w.from-then-from-day.ensures (sfits_lit tt) c.in-Some.ensures.0 w.if-day-from.false
      | else-from-day-via-else-from-day w ↦
          low-fails c.from.result FIRST_DAY c.in-Some.day _ c.from.ensures (sfits_lit tt) c.in-Some.ensures.0 w.if-from-day.false
    ])
