-- The answer to a message of an AppendRows call, and to the end of a call, is no body.
use Rattle.conn_calls.proofs.answering.answer_planned.Goals as goal

pub returns-in-Append-clause-bodies : goal.returns-in-Append-clause-bodies
returns-in-Append-clause-bodies g c = c.answer_append.ensures.bodies c.args.ask.now

pub returns-in-Ends-clause-bodies : goal.returns-in-Ends-clause-bodies
returns-in-Ends-clause-bodies g c = c.at_once.ensures.bodies c.args.ask.now
