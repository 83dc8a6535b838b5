-- Behind a number outside the instants no instant is spelled.
use Rattle.std.proofs.Common.{refl}
use Rattle.std.proofs.Math.Facts.{sfits_lit}
use Rattle.column_types.specs.declared.ranges.TheConstants.{FIRST_INSTANT, LAST_INSTANT}
use Rattle.avro_rows.proofs.CellLemmas.{instant-none, low-fails, high-fails}
use Rattle.avro_rows.proofs.cells.timestamp_at.Goals as goal
use Rattle.avro_rows.proofs.cells.timestamp_at.Goals.{else-instant-ge-FIRST_INSTANT-via-then-instant-ge-FIRST_INSTANT+else-instant-le-LAST_INSTANT, else-instant-ge-FIRST_INSTANT-via-else-instant-ge-FIRST_INSTANT}

pub returns-else-instant-ge-FIRST_INSTANT : goal.returns-else-instant-ge-FIRST_INSTANT
returns-else-instant-ge-FIRST_INSTANT c =
    instant-none _ _ c.in-Some.instant c.in-Some.ensures.1
    (elim c.else-instant-ge-FIRST_INSTANT.branch [
      | else-instant-ge-FIRST_INSTANT-via-then-instant-ge-FIRST_INSTANT+else-instant-le-LAST_INSTANT w ↦
          high-fails LAST_INSTANT LAST_INSTANT c.in-Some.instant _ refl (sfits_lit tt) c.in-Some.ensures.0 w.if-instant-le-LAST_INSTANT.false
      | else-instant-ge-FIRST_INSTANT-via-else-instant-ge-FIRST_INSTANT w ↦
          low-fails FIRST_INSTANT FIRST_INSTANT c.in-Some.instant _ refl (sfits_lit tt) c.in-Some.ensures.0 w.if-instant-ge-FIRST_INSTANT.false
    ])
