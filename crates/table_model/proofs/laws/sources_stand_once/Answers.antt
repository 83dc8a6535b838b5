use Rattle.table_model.proofs.SourceLemmas.{exactly, at_most}
use Rattle.table_model.proofs.laws.sources_stand_once.Goals as goal

pub returns-clause-exactly : goal.returns-clause-exactly
returns-clause-exactly c = exactly

pub returns-clause-at_most : goal.returns-clause-at_most
returns-clause-at_most c = at_most
