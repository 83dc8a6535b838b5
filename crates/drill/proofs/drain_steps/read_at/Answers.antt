-- More rows are read, or why not.
use Rattle.std.proofs.Common.{subst}
use Rattle.drill.specs.Steps.{Looked}
use Rattle.drill.proofs.StepLemmas.{indexed, read_step, read_fails}
use Rattle.drill.proofs.drain_steps.read_at.Goals as goal

pub returns-in-Ok-read_part-clause-stands : goal.returns-in-Ok-read_part-clause-stands
returns-in-Ok-read_part-clause-stands g c = λ moves stands.
    let part = c.index.result.now in
    let look = subst (Looked c.look_at-pass.result.0.seen c.args.session part.node) c.in-Ok.is c.look_at-pass.ensures.looked in
    read_step c.args.session moves c.args.parts.items c.in-Ok-read_part.parts.items c.args.place part c.in-Ok.lease c.args.pass c.look_at-pass.result.0
    c.look_at-pass.ensures.went c.look_at-pass.ensures.legal (indexed c.args.parts.items c.args.place part c.requires.there c.index.ensures) look c.in-Ok-read_part.ensures stands

pub returns-in-Err-clause-fails : goal.returns-in-Err-clause-fails
returns-in-Err-clause-fails g c = λ moves stands.
    let part = c.index.result.now in
    let look = subst (Looked c.look_at-pass.result.0.seen c.args.session part.node) c.in-Err.is c.look_at-pass.ensures.looked in
    read_fails c.args.session moves c.args.parts.items c.args.place part c.in-Err.fault c.args.pass c.look_at-pass.result.0
    c.look_at-pass.ensures.went c.look_at-pass.ensures.legal (indexed c.args.parts.items c.args.place part c.requires.there c.index.ensures) look stands
