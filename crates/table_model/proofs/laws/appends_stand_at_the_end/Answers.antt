use Rattle.table_model.proofs.LawLemmas.{at_end}
use Rattle.table_model.proofs.laws.appends_stand_at_the_end.Goals as goal

pub returns : goal.returns
returns c = at_end
