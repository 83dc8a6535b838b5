-- The answer is given, and ends the call or doesn't.
use Rattle.std.proofs.Common.{◌∙◌, sym}
use Rattle.conn_calls.proofs.asking.give_answer.Goals as goal

pub returns-then-is_end : goal.returns-then-is_end
returns-then-is_end c wanted = (sym c.is_end.ensures ∙ c.if-is_end.true, c.in-Ok.ensures wanted)

pub returns : goal.returns
returns c wanted = (sym c.is_end.ensures ∙ c.if-is_end.false, c.in-Ok.ensures wanted)
