-- The rest of the node is read, or why not.
use Rattle.std.proofs.Common.{subst}
use Rattle.drill.specs.Steps.{Looked}
use Rattle.drill.proofs.StepLemmas.{end_step, end_fails}
use Rattle.drill.proofs.drain_ends.end_part.Goals as goal

pub returns-in-Ok-read_rest-clause-reads : goal.returns-in-Ok-read_rest-clause-reads
returns-in-Ok-read_rest-clause-reads g c = λ moves parts rest reads.
    let look = subst (Looked c.look_at-pass.result.0.seen c.args.session c.args.part.node) c.in-Ok.is c.look_at-pass.ensures.looked in
    end_step c.args.session moves parts c.args.part rest c.args.rows c.read_rest.new.rows c.in-Ok.lease c.args.pass c.look_at-pass.result.0
    c.look_at-pass.ensures.went c.look_at-pass.ensures.legal look c.in-Ok-read_rest.ensures reads

pub returns-in-Err-clause-fails : goal.returns-in-Err-clause-fails
returns-in-Err-clause-fails g c = λ moves parts rest reads.
    let look = subst (Looked c.look_at-pass.result.0.seen c.args.session c.args.part.node) c.in-Err.is c.look_at-pass.ensures.looked in
    end_fails c.args.session moves parts c.args.part rest c.args.rows c.in-Err.fault c.args.pass c.look_at-pass.result.0
    c.look_at-pass.ensures.went c.look_at-pass.ensures.legal look reads
