-- The node is read through its children, or why not.
use Rattle.std.proofs.Common.{subst}
use Rattle.drill.specs.Steps.{Looked}
use Rattle.drill.proofs.StepLemmas.{open_step, open_fails}
use Rattle.drill.proofs.drain_steps.open_at.Goals as goal

pub returns-in-Ok-open_part-clause-stands : goal.returns-in-Ok-open_part-clause-stands
returns-in-Ok-open_part-clause-stands g c = λ moves part at stands there parent here.
    let look = subst (Looked c.look_at-pass.result.0.seen c.args.session c.args.left) c.in-Ok.is c.look_at-pass.ensures.looked in
    open_step c.args.session moves at c.args.parts.items c.in-Ok-open_part.parts.items c.args.place c.args.left c.args.right part c.in-Ok.lease c.args.pass c.look_at-pass.result.0
    c.look_at-pass.ensures.went c.look_at-pass.ensures.legal look c.in-Ok-open_part.ensures stands there parent here

pub returns-in-Err-clause-fails : goal.returns-in-Err-clause-fails
returns-in-Err-clause-fails g c = λ moves part stands there parent.
    let look = subst (Looked c.look_at-pass.result.0.seen c.args.session c.args.left) c.in-Err.is c.look_at-pass.ensures.looked in
    open_fails c.args.session part.node c.args.left c.args.right c.in-Err.fault c.args.pass c.look_at-pass.result.0 c.look_at-pass.ensures.went c.look_at-pass.ensures.legal look parent
