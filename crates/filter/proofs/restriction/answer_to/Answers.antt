use Rattle.std.proofs.Common.{Ok, subst, ap, ◌∙◌}
use Rattle.filter.specs.Reading.{Reads}
use Rattle.filter.specs.Restriction.{Means}
use Rattle.filter.proofs.Typed.{means_typed}
use Rattle.filter.proofs.restriction.answer_to.Goals as goal

pub returns-in-Ok-Ok-clause-typed : goal.returns-in-Ok-Ok-clause-typed
returns-in-Ok-Ok-clause-typed c =
    let reads = subst (Reads c.args.schema.now c.as_bytes.result.now) (c.in-Ok-Ok.is ∙ ap Ok c.in-Ok-Ok.field-0-is) c.read.ensures in
    let means = subst (λ bytes. Means c.args.schema.now bytes (Ok c.in-Ok-Ok.pred)) c.as_bytes.ensures.value reads in
    means_typed c.args.schema.now c.args.text.now c.in-Ok-Ok.pred c.utf8.text means
