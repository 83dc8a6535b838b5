use Rattle.table_model.proofs.LawLemmas.{grows}
use Rattle.table_model.proofs.laws.visible_rows_only_grow.Goals as goal

pub returns : goal.returns
returns c = grows
