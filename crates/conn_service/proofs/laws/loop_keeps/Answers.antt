-- Each is a lemma.
use Rattle.conn_service.proofs.GoingLemmas.{going-begins, quiet-at-rest, done, cut, out-of-memory}
use Rattle.conn_service.proofs.laws.loop_keeps.Goals as goal

pub returns-clause-begins : goal.returns-clause-begins
returns-clause-begins c = going-begins

pub returns-clause-quiet : goal.returns-clause-quiet
returns-clause-quiet c = quiet-at-rest

pub returns-clause-done : goal.returns-clause-done
returns-clause-done c = done

pub returns-clause-cut : goal.returns-clause-cut
returns-clause-cut c = cut

pub returns-clause-memory : goal.returns-clause-memory
returns-clause-memory c = out-of-memory
