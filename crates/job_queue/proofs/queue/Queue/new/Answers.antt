-- An empty queue keeps its rule.
use Rattle.job_queue.proofs.RuleLemmas.{begins}
use Rattle.job_queue.proofs.queue.Queue.new.Goals as goal

pub ruled-requires-clause-rule : goal.ruled-requires-clause-rule
ruled-requires-clause-rule g c = begins
