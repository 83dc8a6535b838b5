use Rattle.row_decode.proofs.RowLemmas.{text_cell-good, text_cell-bad}
use Rattle.row_decode.proofs.cells.text_cell.Goals as goal

pub returns-in_ok-of-in-Ok : goal.returns-in_ok-of-in-Ok
returns-in_ok-of-in-Ok c = rw (c.in_ok-of-in-Ok.ensures, c.in-Ok.ensures.cases.0) (text_cell-good c.args.at c.args.bytes.now c.in-Ok.ensures.cases.1)

pub returns-in-Err : goal.returns-in-Err
returns-in-Err c = text_cell-bad c.args.at c.args.bytes.now c.in-Err.ensures.cases.0
