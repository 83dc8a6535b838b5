use Rattle.std.proofs.Common.{arith, sym, ◌∙◌}
use Rattle.std.proofs.lemmas.Grind.{common_steps}
use Rattle.row_descriptor.specs.Descriptor.{is_same_number}
use Rattle.row_descriptor.proofs.DistinctLemmas.{are_distinct-more, are_distinct-again, is_same_number-symmetric, was_there, was_new, list_any-more}
use Rattle.row_descriptor.proofs.distinct.have_distinct_numbers.Goals as goal

pub returns-then-not-branch : goal.returns-then-not-branch
returns-then-not-branch c =
    let seen = c.loop-field.invariant.1 c.field-item.result.number in
    sym (are_distinct-again is_same_number is_same_number-symmetric c.args.fields.now c.loop-field.field-index c.field-item.result c.loop-field-test.true c.field-item.is (sym seen ∙ was_there _ _ c.in_ok-insert.ensures.added c.if-not-branch.true))

pub loop-field-preserved : goal.loop-field-preserved
loop-field-preserved c =
    let seen = c.loop-field.invariant.1 c.field-item.result.number in (
      are_distinct-more is_same_number is_same_number-symmetric c.args.fields.now c.loop-field.field-index c.field-item.result c.loop-field-test.true c.field-item.is c.loop-field.invariant.0 (sym seen ∙ was_new _ _ c.in_ok-insert.ensures.added c.if-not-branch.false),
      λ q. grind (arith, common_steps, list_any-more, c.loop-field.invariant.1 q),
    )
