-- The answer that stands for want of memory is no body.
use Rattle.conn_calls.proofs.answering.answer_ask.Goals as goal

pub returns-in-Err-clause-bodies : goal.returns-in-Err-clause-bodies
returns-in-Err-clause-bodies g c = c.at_once.ensures.bodies c.args.ask.now
