use Rattle.table_model.proofs.LawLemmas.{made}
use Rattle.table_model.proofs.laws.entries_are_made.Goals as goal

pub returns : goal.returns
returns c = made
