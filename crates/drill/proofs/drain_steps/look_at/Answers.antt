-- What the look tells.
use Rattle.std.proofs.Common.{sym, subst}
use Rattle.table_engine.specs.declared.looks.Key.{Key}
use Rattle.drill.specs.Steps.{Looked}
use Rattle.drill.proofs.AskLemmas.{look_asked}
use Rattle.drill.proofs.LookLemmas.{look_went, look_told}
use Rattle.drill.proofs.drain_steps.look_at.Goals as goal

pub returns-clause-went : goal.returns-clause-went
returns-clause-went g c =
    let key : Key = record { session = c.args.session; node = c.args.node } in
    look_went c.args.session key c.args.pass c.look-pass.result.0 c.look-pass.result.1 c.look-pass.ensures.looks

pub returns-clause-looked : goal.returns-clause-looked
returns-clause-looked g c =
    let key : Key = record { session = c.args.session; node = c.args.node } in
    subst (Looked c.look-pass.result.0.seen c.args.session c.args.node) (sym c.lease_of.ensures)
    (look_told key c.args.pass c.look-pass.result.0 c.look-pass.result.1 c.look-pass.ensures.looks)

pub returns-clause-asked : goal.returns-clause-asked
returns-clause-asked g c =
    let key : Key = record { session = c.args.session; node = c.args.node } in
    look_asked c.args.session key c.args.pass c.look-pass.result.0 c.look-pass.result.1 c.look-pass.ensures.looks
