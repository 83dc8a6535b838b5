-- Each response is short.
use Rattle.std.proofs.Common.{[], ◌∙◌, arith}
use Rattle.table_model.specs.declared.reasons.Why.TheVariants as why
use Rattle.call_append.proofs.AskingLemmas.{refused_few}
use Rattle.call_append.proofs.ResponseSizes.{responds_short, told_short, told_without_short}
use Rattle.call_append.proofs.appends.answer_rows.Goals as goal

pub returns-in-Err-clause-size : goal.returns-in-Err-clause-size
returns-in-Err-clause-size c = responds_short _ _ _ c.refuse.result (told_without_short c.args.table.now.columns _ [] _ (omega arith)) c.refuse.ensures.outcome

pub returns-in-Ok-prepare-clause-size : goal.returns-in-Ok-prepare-clause-size
returns-in-Ok-prepare-clause-size c = responds_short _ _ _ c.append.result (told_short c.args.table.now.columns _) c.append.ensures.outcome

pub returns-in-Err-Refused-clause-size : goal.returns-in-Err-Refused-clause-size
returns-in-Err-Refused-clause-size c =
    let f = c.in-Err-Refused in
    let few = refused_few c.args.asker.stream _ c.args.offset c.args.rows.now f.field-0 f.faults c.faults-in-Err-Refused.result.now f.ensures.value f.field-0-is (c.faults-in-Err-Refused.ensures ∙ f.faults-is) in
    responds_short _ _ _ c.refuse-in-Err-Refused.result (told_without_short c.args.table.now.columns why.BadRows c.faults-in-Err-Refused.result.now _ few) c.refuse-in-Err-Refused.ensures.outcome
