use Rattle.table_model.proofs.LawLemmas.{keeps_legal}
use Rattle.table_model.proofs.laws.steps_keep_legal.Goals as goal

pub returns : goal.returns
returns c = keeps_legal
