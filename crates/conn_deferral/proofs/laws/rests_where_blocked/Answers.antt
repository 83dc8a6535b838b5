-- It is a lemma.
use Rattle.conn_deferral.proofs.Rest.{rests-where-blocked}
use Rattle.conn_deferral.proofs.laws.rests_where_blocked.Goals as goal

pub returns : goal.returns
returns c = record { rests = rests-where-blocked }
