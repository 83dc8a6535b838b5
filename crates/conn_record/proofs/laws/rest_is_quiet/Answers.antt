-- Each is a lemma.
use Rattle.conn_record.proofs.Quiet.{rest-is-quiet, rest-is-said}
use Rattle.conn_record.proofs.laws.rest_is_quiet.Goals as goal

pub returns-clause-quiet : goal.returns-clause-quiet
returns-clause-quiet c = rest-is-quiet

pub returns-clause-said : goal.returns-clause-said
returns-clause-said c = rest-is-said
