-- A job less keeps the rule.
use Rattle.std.proofs.Common.{◌<◌, sym, subst}
use Rattle.job_queue.proofs.RuleLemmas.{takes, learns_none}
use Rattle.job_queue.proofs.queue.Queue.take.Goals as goal

pub pop_as-requires-clause-rule : goal.pop_as-requires-clause-rule
pop_as-requires-clause-rule g c =
    let same = c.loop.invariant.1 in (
      takes _ _ (subst (λ v. 0 < v.parts) (sym same) c.requires.parts),
      learns_none _ _,
    )
