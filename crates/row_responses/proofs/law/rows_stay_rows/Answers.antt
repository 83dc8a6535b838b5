use Rattle.column_types.specs.Fields.{projected}
use Rattle.row_responses.proofs.BodyLemmas.{give}
use Rattle.row_responses.proofs.law.rows_stay_rows.Goals as goal

pub returns : goal.returns
returns c = λ columns fields rows. give (projected fields columns) rows
