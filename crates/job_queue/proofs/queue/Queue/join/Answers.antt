-- A hand less keeps the rule.
use Rattle.job_queue.proofs.RuleLemmas.{merges}
use Rattle.job_queue.proofs.queue.Queue.join.Goals as goal

pub absorb-requires-clause-rule : goal.absorb-requires-clause-rule
absorb-requires-clause-rule g c = merges _ _ _ _ c.requires.taker c.requires.parts
