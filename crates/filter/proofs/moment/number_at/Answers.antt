use Rattle.filter.proofs.Moments.{number_short, number_here}
use Rattle.filter.proofs.moment.number_at.Goals as goal

pub returns-then-text-at-clause-value : goal.returns-then-text-at-clause-value
returns-then-text-at-clause-value c = number_short c.args.text.now c.args.at c.args.len c.if-text-at.true

pub returns-clause-value : goal.returns-clause-value
returns-clause-value c = number_here c.args.text.now c.args.at c.args.len c.digits_number.result c.if-text-at.false c.digits_number.ensures.value
