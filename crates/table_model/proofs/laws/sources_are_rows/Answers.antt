use Rattle.table_model.proofs.RowLemmas.{are_rows}
use Rattle.table_model.proofs.laws.sources_are_rows.Goals as goal

pub returns : goal.returns
returns c = are_rows
