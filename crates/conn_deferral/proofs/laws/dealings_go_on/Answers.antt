-- Each is a lemma.
use Rattle.conn_deferral.proofs.Dealing.{dealing-begins, deals-on, deals-rest, deals-part, deals-less, deals-in}
use Rattle.conn_deferral.proofs.laws.dealings_go_on.Goals as goal

pub returns-clause-begins : goal.returns-clause-begins
returns-clause-begins c = dealing-begins

pub returns-clause-frames : goal.returns-clause-frames
returns-clause-frames c = deals-on

pub returns-clause-part : goal.returns-clause-part
returns-clause-part c = deals-part

pub returns-clause-less : goal.returns-clause-less
returns-clause-less c = deals-less

pub returns-clause-came : goal.returns-clause-came
returns-clause-came c = deals-in

pub returns-clause-rest : goal.returns-clause-rest
returns-clause-rest c = deals-rest
