use Rattle.table_model.proofs.SessionLemmas.{nodes_join}
use Rattle.table_model.proofs.laws.sessions_join.Goals as goal

pub returns : goal.returns
returns g c = nodes_join
