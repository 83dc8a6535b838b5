-- The stream ends, or stays as it was.
use Rattle.h2_conn.proofs.PayloadLemmas.{near-settled, ends-nothing}
use Rattle.h2_conn.proofs.trailing.trail.Goals as goal

pub returns-then-ended-clause-near : goal.returns-then-ended-clause-near
returns-then-ended-clause-near c = λ initial near. near-settled initial c.args.id c.args.streams.now c.end.new.self c.requires c.end.ensures near

pub returns-else-ended-clause-ends : goal.returns-else-ended-clause-ends
returns-else-ended-clause-ends c = ends-nothing c.args.streams.now c.args.id c.args.ended c.if-ended.false
