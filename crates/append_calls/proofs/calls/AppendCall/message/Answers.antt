use Rattle.append_calls.proofs.RequestLemmas.{request_is_small}
use Rattle.append_calls.proofs.calls.AppendCall.message.Goals as goal

pub answer-requires-clause-small : goal.answer-requires-clause-small
answer-requires-clause-small g c = request_is_small c.args.message.now c.in-Ok.request c.requires.small c.in-Ok.ensures
