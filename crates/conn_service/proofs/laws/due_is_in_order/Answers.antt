-- Each is a lemma.
use Rattle.conn_service.proofs.OrderLemmas.{due-in-order, answers-in-order}
use Rattle.conn_service.proofs.laws.due_is_in_order.Goals as goal

pub returns-clause-due : goal.returns-clause-due
returns-clause-due c = due-in-order

pub returns-clause-answers : goal.returns-clause-answers
returns-clause-answers c = answers-in-order
