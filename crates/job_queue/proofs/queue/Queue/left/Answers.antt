-- The hand with all parts learns of all.
use Rattle.job_queue.proofs.RuleLemmas.{settles}
use Rattle.job_queue.proofs.queue.Queue.left.Goals as goal

pub len_as-requires-clause-rule : goal.len_as-requires-clause-rule
len_as-requires-clause-rule g c = settles _ _ c.requires.parts c.requires.puts
