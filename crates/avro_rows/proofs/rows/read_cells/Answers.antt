-- One cell more, or none that fits.
use Rattle.avro_rows.proofs.RowLemmas.{read-cell, bad-here}
use Rattle.avro_rows.proofs.rows.read_cells.Goals as goal

pub returns-in_default-clause-fault : goal.returns-in_default-clause-fault
returns-in_default-clause-fault c =
    bad-here c.args.columns.now c.args.numbers.now c.loop-number.cells.items c.loop-number.number-index c.index-columns-number.result _ _ c.loop-number-test.true c.requires.within
    c.index-columns-number.is (rw c.in_default.is at c.in_ok-cell.ensures) c.loop-number.invariant

pub loop-number-preserved : goal.loop-number-preserved
loop-number-preserved c =
    let found = rw c.in-Some.is at c.in_ok-cell.ensures in
    read-cell c.args.columns.now c.args.numbers.now c.loop-number.cells.items _ c.loop-number.number-index c.index-columns-number.result c.in-Some.cell _ _ c.in-Some.behind.now
    c.loop-number-test.true c.requires.within c.index-columns-number.is c.in_ok-push.ensures.items found.0 found.1 c.loop-number.invariant
