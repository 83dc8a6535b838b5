use Rattle.filter.proofs.Computed.{restriction_answers}
use Rattle.filter.proofs.restriction.restriction_answers.Goals as goal

pub returns : goal.returns
returns c = restriction_answers
