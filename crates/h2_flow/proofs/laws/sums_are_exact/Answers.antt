use Rattle.h2_flow.proofs.Sums.{sum_of, granted_when_spent, always_granted}
use Rattle.h2_flow.proofs.laws.sums_are_exact.Goals as goal

pub returns-clause-sum : goal.returns-clause-sum
returns-clause-sum c = sum_of

pub returns-clause-when_spent : goal.returns-clause-when_spent
returns-clause-when_spent c = granted_when_spent

pub returns-clause-always : goal.returns-clause-always
returns-clause-always c = always_granted
