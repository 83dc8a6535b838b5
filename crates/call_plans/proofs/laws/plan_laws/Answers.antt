use Rattle.call_plans.proofs.PlanLemmas.{plan-sound}
use Rattle.call_plans.proofs.ReplyLemmas.{replies_in_kind}
use Rattle.call_plans.proofs.laws.plan_laws.Goals as goal

pub returns-clause-tables : goal.returns-clause-tables
returns-clause-tables c specs named asked = (plan-sound specs named asked).asks

pub returns-clause-ends : goal.returns-clause-ends
returns-clause-ends c specs named asked = (plan-sound specs named asked).answers

pub returns-clause-replies : goal.returns-clause-replies
returns-clause-replies c = replies_in_kind
