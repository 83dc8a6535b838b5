-- The pass went on.
use Rattle.drill.proofs.AskLemmas.{asked_none, asked_then}
use Rattle.drill.proofs.WentLemmas.{went_further}
use Rattle.drill.proofs.drains.drain.Goals as goal

pub returns-in-Ok-clause-went : goal.returns-in-Ok-clause-went
returns-in-Ok-clause-went g c =
    went_further c.args.session c.args.pass c.begin-pass.result.0 c.follow.result.0 c.begin-pass.ensures.went c.follow.ensures.went

pub returns-in-Ok-clause-asked : goal.returns-in-Ok-clause-asked
returns-in-Ok-clause-asked g c =
    asked_then c.args.session c.args.moves.now c.args.pass c.begin-pass.result.0 c.follow.result.0 c.begin-pass.ensures.asked c.follow.ensures.asked

pub returns-in-Err-clause-asked : goal.returns-in-Err-clause-asked
returns-in-Err-clause-asked g c = asked_none c.args.session c.args.moves.now c.args.pass c.begin-pass.result.0 c.begin-pass.ensures.asked
