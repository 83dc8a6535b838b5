-- The roots, or why there are none.
use Rattle.std.proofs.Common.{subst}
use Rattle.drill.specs.Steps.{Looked}
use Rattle.drill.proofs.LookLemmas.{first_fails}
use Rattle.drill.proofs.PartLemmas.{roots_stand}
use Rattle.drill.proofs.drain_steps.begin.Goals as goal

pub returns-in-Ok-roots_of-clause-stands : goal.returns-in-Ok-roots_of-clause-stands
returns-in-Ok-roots_of-clause-stands g c =
    let look = subst (Looked c.look_at-pass.result.0.seen c.args.session 0) c.in-Ok.is c.look_at-pass.ensures.looked in
    roots_stand c.args.pass.fixed c.look_at-pass.result.0.seen c.args.session c.in-Ok.lease c.in-Ok-roots_of.parts.items c.look_at-pass.ensures.legal look
    c.in-Ok-roots_of.ensures.nodes c.in-Ok-roots_of.ensures.unread

pub returns-in-Err-clause-fails : goal.returns-in-Err-clause-fails
returns-in-Err-clause-fails g c =
    let look = subst (Looked c.look_at-pass.result.0.seen c.args.session 0) c.in-Err.is c.look_at-pass.ensures.looked in
    first_fails c.args.pass.fixed c.args.pass.number c.look_at-pass.result.0.seen c.args.session c.in-Err.fault c.look_at-pass.ensures.legal look
