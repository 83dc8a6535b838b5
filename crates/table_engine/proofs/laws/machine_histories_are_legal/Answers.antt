use Rattle.table_engine.proofs.MachineLemmas.{legal}
use Rattle.table_engine.proofs.laws.machine_histories_are_legal.Goals as goal

pub returns : goal.returns
returns c = legal
