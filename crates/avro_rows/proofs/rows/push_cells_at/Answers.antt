use Rattle.avro_rows.proofs.RowLemmas.{push-chosen}
use Rattle.avro_rows.proofs.rows.push_cells_at.Goals as goal

pub loop-number-preserved : goal.loop-number-preserved
loop-number-preserved c =
    push-chosen c.args.columns.now c.args.numbers.now c.args.cells.now c.loop-number.number-index c.index-columns-place.result c.index-cells-place.result c.loop-number.out.items _ _
    c.loop-number-test.true c.requires.count c.requires.within c.index-columns-place.is c.index-cells-place.is c.in_ok-push_cell.ensures c.loop-number.invariant
