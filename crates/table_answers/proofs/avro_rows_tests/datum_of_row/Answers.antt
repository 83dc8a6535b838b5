-- The cells of a row that fits, at the fields, fit the fields' columns.
use Rattle.std.proofs.Common.{sym, ◌∙◌}
use Rattle.table_answers.proofs.avro_rows_tests.datum_of_row.Goals as goal

pub encode_row-requires-clause-fits : goal.encode_row-requires-clause-fits
encode_row-requires-clause-fits c = c.in_ok-chosen.ensures.fits c.args.schema.now (sym c.fits.ensures ∙ c.if-not-fits.false)
