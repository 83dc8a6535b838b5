-- A read, as a move.
use Rattle.std.proofs.Common.{[], ◌∷◌, ◌++◌, sym, subst}
use Rattle.std.specs.Prelude.{IfOk}
use Rattle.drill.specs.Parts.{Stands}
use Rattle.drill.proofs.AskLemmas.{asked_none}
use Rattle.drill.proofs.StepLemmas.{then_read}
use Rattle.drill.proofs.drain_steps.take_step.Goals as goal

pub returns-in-Read-clause-stands : goal.returns-in-Read-clause-stands
returns-in-Read-clause-stands g c = λ moves stands.
    subst (λ step. IfOk c.read_at.result.1 (λ after. Stands c.read_at.result.0.seen c.args.session (moves ++ step ∷ []) after.items)) (sym c.in-Read.is)
    (then_read c.read_at.result.0.seen c.args.session moves c.in-Read.place c.in-Read.count (λ after. after.items) c.read_at.result.1 (c.read_at.ensures.stands moves stands))

pub returns-in-Read-clause-asked : goal.returns-in-Read-clause-asked
returns-in-Read-clause-asked g c = λ moves stands. asked_none c.args.session _ c.args.pass c.read_at.result.0 c.read_at.ensures.asked
