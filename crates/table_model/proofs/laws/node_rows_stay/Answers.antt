use Rattle.table_model.proofs.SessionLemmas.{rows_stay}
use Rattle.table_model.proofs.laws.node_rows_stay.Goals as goal

pub returns : goal.returns
returns g c = rows_stay
