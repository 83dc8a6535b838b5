-- Each is a lemma.
use Rattle.conn_service.proofs.AloneLemmas.{served-computed}
use Rattle.conn_service.proofs.PassLemmas.{first-alone, served-goes-on}
use Rattle.conn_service.proofs.laws.served_is_computed.Goals as goal

pub returns-clause-computed : goal.returns-clause-computed
returns-clause-computed c = served-computed

pub returns-clause-first : goal.returns-clause-first
returns-clause-first c = first-alone

pub returns-clause-goes_on : goal.returns-clause-goes_on
returns-clause-goes_on c = served-goes-on
