-- What is written is as it was given.
use Rattle.client_calls.proofs.GivenLaws.{given-result}
use Rattle.client_calls.proofs.writing.client_bytes.Goals as goal

pub returns-clause-given : goal.returns-clause-given
returns-clause-given c = given-result c.args.calls.now c.spelled_calls.result c.requires c.spelled_calls.ensures
