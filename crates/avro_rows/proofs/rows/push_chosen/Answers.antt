-- A row that fits has a cell for each column.
use Rattle.avro_rows.proofs.RowLemmas.{length-row}
use Rattle.avro_rows.proofs.rows.push_chosen.Goals as goal

pub push_cells_at-requires-clause-count : goal.push_cells_at-requires-clause-count
push_cells_at-requires-clause-count c = rw (c.columns.ensures.value, c.cells.ensures) (length-row c.args.schema.now c.args.row.now c.requires.fits)
