use Rattle.avro_rows.proofs.RowLemmas.{push-cell}
use Rattle.avro_rows.proofs.rows.push_cells.Goals as goal

pub loop-i-preserved : goal.loop-i-preserved
loop-i-preserved c =
    push-cell c.args.columns.now c.args.numbers.now c.args.cells.now c.loop-i.i c.index-columns-numbers.result c.index-cells-i.result c.loop-i.out.items _ _ c.loop-i-test.true
    c.requires.count c.requires.within c.index-columns-numbers.is c.index-cells-i.is c.in_ok-push_cell.ensures c.loop-i.invariant
