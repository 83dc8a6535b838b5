use Rattle.table_model.proofs.PlainLemmas.{legal_within}
use Rattle.table_model.proofs.laws.legal_is_within.Goals as goal

pub returns : goal.returns
returns c = legal_within
