use Rattle.table_model.proofs.SessionLemmas.{are_trees}
use Rattle.table_model.proofs.laws.sessions_are_trees.Goals as goal

pub returns : goal.returns
returns c = are_trees
