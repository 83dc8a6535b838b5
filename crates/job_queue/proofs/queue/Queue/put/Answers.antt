-- A job more keeps the rule.
use Rattle.std.proofs.Common.{◌∙◌, ◌<◌, ap, sym, subst}
use Rattle.job_queue.proofs.RuleLemmas.{puts}
use Rattle.job_queue.proofs.queue.Queue.put.Goals as goal

pub try_push_as-requires-clause-rule : goal.try_push_as-requires-clause-rule
try_push_as-requires-clause-rule g c =
    let same = c.loop.invariant.1 in
    puts _ _ _ _ (ap (λ v. v.puts) same ∙ c.requires.puts) (subst (λ v. 0 < v.parts) (sym same) c.requires.parts)
