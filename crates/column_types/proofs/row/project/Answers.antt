-- The cells at some columns fit these columns.
use Rattle.column_types.proofs.FitsLemmas.{Fits-projected}
use Rattle.column_types.proofs.row.project.Goals as goal

pub returns-clause-fits : goal.returns-clause-fits
returns-clause-fits c = λ columns fits.
    rw (c.in_ok-cells.ensures, c.numbers.ensures, c.cells.ensures) (Fits-projected _ columns _ fits)
