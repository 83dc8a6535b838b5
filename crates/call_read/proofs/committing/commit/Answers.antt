-- A message names fewer streams than it has bytes.
use Rattle.std.proofs.Common.{arith}
use Rattle.call_read.proofs.CommitLemmas.{names_are_few}
use Rattle.call_read.proofs.committing.commit.Goals as goal

pub commit_request-requires-clause-few : goal.commit_request-requires-clause-few
commit_request-requires-clause-few g c = omega (arith, c.requires.small, names_are_few c.args.message.now c.in-Ok.request c.in-Ok.ensures)
