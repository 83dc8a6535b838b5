-- What begins with a datum is read.
use Rattle.avro_rows.proofs.RowLemmas.{fault-again, found-again}
use Rattle.avro_rows.proofs.rows.decode_row.Goals as goal

pub returns-in-Ok-clause-again : goal.returns-in-Ok-clause-again
returns-in-Ok-clause-again c = λ row rest fits is.
    let found = rw (c.numbers.ensures, c.columns.ensures.value) at c.in-Ok.ensures.found in
    rw c.from_vec.ensures (found-again _ _ rest c.in-Ok.rest.now c.in-Ok.cells.items row found.0 found.1 fits is)

pub returns-in-Err-clause-again : goal.returns-in-Err-clause-again
returns-in-Err-clause-again c = λ row rest fits is.
    fault-again _ _ c.in-Err.fault (rw (c.numbers.ensures, c.columns.ensures.value) at c.in-Err.ensures.fault) row rest fits is
