-- Each call by its place.
use Rattle.client_calls.proofs.ByteLemmas.{call-at}
use Rattle.client_calls.proofs.writing.put_calls.Goals as goal

pub put_call-requires-clause-id : goal.put_call-requires-clause-id
put_call-requires-clause-id c = (call-at 0 c.args.calls.now c.loop-call.call-index c.call-item.result c.requires c.loop-call-test.true c.call-item.is).0

pub put_call-requires-clause-short : goal.put_call-requires-clause-short
put_call-requires-clause-short c = (call-at 0 c.args.calls.now c.loop-call.call-index c.call-item.result c.requires c.loop-call-test.true c.call-item.is).1
