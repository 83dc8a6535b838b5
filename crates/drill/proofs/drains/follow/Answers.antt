-- A move more, or why not.
use Rattle.std.proofs.Common.{◌+◌, List, [], take, drop, sym, subst}
use Rattle.std.proofs.lemmas.List.{take_more, take-append-drop}
use Rattle.table_model.specs.Legal.{IsLegal}
use Rattle.drill.specs.declared.moves.Move.{Move}
use Rattle.drill.specs.Drains.{Asked}
use Rattle.drill.specs.Parts.{Stands}
use Rattle.drill.proofs.AskLemmas.{asked_nowhere, asked_on, asked_kept, asked_extra}
use Rattle.drill.proofs.StepLemmas.{fixed_kept, legal_went, fails_kept}
use Rattle.drill.proofs.WentLemmas.{went_nowhere, went_further}
use Rattle.drill.proofs.drains.follow.Goals as goal

pub returns-in-Err-clause-went : goal.returns-in-Err-clause-went
returns-in-Err-clause-went g c =
    went_further c.args.session c.args.pass c.loop-step.pass c.take_step-next.result.0 c.loop-step.invariant.went c.take_step-next.ensures.went

pub returns-in-Err-clause-drains : goal.returns-in-Err-clause-drains
returns-in-Err-clause-drains g c =
    rw c.in-Err.is at (fails_kept c.args.session c.args.pass c.loop-step.pass c.take_step-next.result.0.seen c.take_step-next.result.1 c.loop-step.invariant.went
    (c.take_step-next.ensures.fails (take c.loop-step.step-index c.args.moves.now) c.loop-step.invariant.stands))

pub loop-step-preserved : goal.loop-step-preserved
loop-step-preserved g c = record {
  theirs = c.take_step-next.ensures.theirs;
  went = went_further c.args.session c.args.pass c.loop-step.pass c.take_step-next.result.0 c.loop-step.invariant.went c.take_step-next.ensures.went;
  asked =
      let went = went_further c.args.session c.args.pass c.loop-step.pass c.take_step-next.result.0 c.loop-step.invariant.went c.take_step-next.ensures.went in
      let moves = take c.loop-step.step-index c.args.moves.now in
      let second = c.take_step-next.ensures.asked moves c.loop-step.invariant.stands in
      subst (λ (moves : List Move). Asked c.args.session moves c.args.pass c.take_step-next.result.0) (sym (take_more c.args.moves.now c.loop-step.step-index _ c.loop-step-test.true))
      (asked_on c.args.session moves _ _ c.args.pass c.loop-step.pass c.take_step-next.result.0 (legal_went c.args.session c.args.pass c.take_step-next.result.0 went c.seen_is_legal.ensures)
      (λ node asked. asked) c.loop-step.invariant.asked second);
  stands =
      let after = rw c.in-Ok.is at (c.take_step-next.ensures.stands (take c.loop-step.step-index c.args.moves.now) c.loop-step.invariant.stands) in
      subst (λ (moves : List Move). Stands c.take_step-next.result.0.seen c.args.session moves c.in-Ok.parts.items)
      (sym (take_more c.args.moves.now c.loop-step.step-index _ c.loop-step-test.true)) after;
}

pub returns-clause-went : goal.returns-clause-went
returns-clause-went g c = went_further c.args.session c.args.pass c.loop-step.pass c.end.result.0 c.loop-step.invariant.went c.end.ensures.went

pub loop-step-init : goal.loop-step-init
loop-step-init g c = record {
  theirs = c.requires.theirs;
  went = went_nowhere c.args.session c.args.pass;
  asked = asked_nowhere c.args.session [] c.args.pass;
  stands = c.requires.stands;
}

pub returns-in-Err-clause-asked : goal.returns-in-Err-clause-asked
returns-in-Err-clause-asked g c =
    let went = went_further c.args.session c.args.pass c.loop-step.pass c.take_step-next.result.0 c.loop-step.invariant.went c.take_step-next.ensures.went in
    let moves = take c.loop-step.step-index c.args.moves.now in
    let second = c.take_step-next.ensures.asked moves c.loop-step.invariant.stands in
    let asked = subst (λ (moves : List Move). Asked c.args.session moves c.args.pass c.take_step-next.result.0) (sym (take_more c.args.moves.now c.loop-step.step-index _ c.loop-step-test.true))
    (asked_on c.args.session moves _ _ c.args.pass c.loop-step.pass c.take_step-next.result.0 (legal_went c.args.session c.args.pass c.take_step-next.result.0 went c.seen_is_legal.ensures)
    (λ node asked. asked) c.loop-step.invariant.asked second) in
    subst (λ (moves : List Move). Asked c.args.session moves c.args.pass c.take_step-next.result.0) (take-append-drop (c.loop-step.step-index + 1) c.args.moves.now)
    (asked_extra c.args.session (take (c.loop-step.step-index + 1) c.args.moves.now) (drop (c.loop-step.step-index + 1) c.args.moves.now) c.args.pass c.take_step-next.result.0 asked)

pub returns-clause-asked : goal.returns-clause-asked
returns-clause-asked g c =
    let i = c.loop-step.invariant in
    let legal = subst (λ columns. IsLegal columns c.end.result.0.seen) (fixed_kept c.args.session c.args.pass c.loop-step.pass i.went) c.end.ensures.legal in
    let moves = take c.loop-step.step-index c.args.moves.now in
    subst (λ (moves : List Move). Asked c.args.session moves c.args.pass c.end.result.0) (take-append-drop c.loop-step.step-index c.args.moves.now)
    (asked_extra c.args.session moves (drop c.loop-step.step-index c.args.moves.now) c.args.pass c.end.result.0
    (asked_kept c.args.session moves c.args.pass c.loop-step.pass c.end.result.0 legal i.asked c.end.ensures.asked))
