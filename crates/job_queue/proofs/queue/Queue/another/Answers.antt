-- A hand more keeps the rule.
use Rattle.job_queue.proofs.RuleLemmas.{forks}
use Rattle.job_queue.proofs.queue.Queue.another.Goals as goal

pub another-pass-requires-clause-rule : goal.another-pass-requires-clause-rule
another-pass-requires-clause-rule g c = forks _ _ c.requires.parts
