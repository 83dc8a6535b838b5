-- The stream is dropped and then reset.
use Rattle.h2_conn.proofs.ClosingLemmas.{changes-reset}
use Rattle.h2_conn.proofs.closing.reset_live.Goals as goal

pub returns-clause-answers : goal.returns-clause-answers
returns-clause-answers c = changes-reset _ _ _ c.args.id c.args.code c.drop_all_of.ensures c.in_ok-reset.ensures.ok
