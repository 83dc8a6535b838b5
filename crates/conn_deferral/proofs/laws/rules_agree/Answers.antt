-- Each is a lemma.
use Rattle.conn_deferral.proofs.Agreeing.{rules-agree, due-by-both}
use Rattle.conn_deferral.proofs.laws.rules_agree.Goals as goal

pub returns-clause-agree : goal.returns-clause-agree
returns-clause-agree c = rules-agree

pub returns-clause-due : goal.returns-clause-due
returns-clause-due c = due-by-both
