use Rattle.table_model.proofs.FitLemmas.{visible_fits, sessions_fit}
use Rattle.table_model.proofs.laws.all_fits.Goals as goal

pub returns-clause-visible : goal.returns-clause-visible
returns-clause-visible c = visible_fits

pub returns-clause-sessions : goal.returns-clause-sessions
returns-clause-sessions c = sessions_fit
