-- A row that fits has a cell for each column.
use Rattle.avro_rows.proofs.RowLemmas.{length-fits}
use Rattle.avro_rows.proofs.rows.encode_row.Goals as goal

pub push_cells-requires-clause-count : goal.push_cells-requires-clause-count
push_cells-requires-clause-count c =
    rw (c.numbers.ensures, c.cells-2.ensures) (length-fits c.args.schema.now c.args.fields.now c.args.row.now c.requires.made.within c.requires.fits)
