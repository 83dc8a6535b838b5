use Rattle.filter.proofs.OneAnswer.{one_answer}
use Rattle.filter.proofs.restriction.one_answer.Goals as goal

pub returns : goal.returns
returns c = one_answer
