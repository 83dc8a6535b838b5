use Rattle.table_model.proofs.SessionLemmas.{stay}
use Rattle.table_model.proofs.laws.sessions_stay.Goals as goal

pub returns : goal.returns
returns c = stay
