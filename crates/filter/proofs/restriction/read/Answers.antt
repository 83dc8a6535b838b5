use Rattle.std.proofs.Common.{◌+◌, sym, ◌∙◌, refl}
use Rattle.filter.proofs.Fronts.{at_start, takes_next, takes_fault, end_fault, end_means}
use Rattle.filter.proofs.restriction.read.Goals as goal

pub tokens-init : goal.tokens-init
tokens-init c = at_start c.args.schema.now c.args.text.now c.start.result c.blank_len.result c.start.ensures c.blank_len.ensures.value c.blank_len.ensures.within

pub tokens-preserved : goal.tokens-preserved
tokens-preserved c =
    takes_next c.args.schema.now c.args.text.now c.tokens.reading c.in-Ok.next c.blank_len-in-tokens.result (c.in-Ok.next.at + c.blank_len-in-tokens.result)
    c.tokens.invariant c.in-Ok.ensures c.blank_len-in-tokens.ensures.value c.blank_len-in-tokens.ensures.within refl

pub returns-in-Err : goal.returns-in-Err
returns-in-Err c = takes_fault c.args.schema.now c.args.text.now c.tokens.reading c.in-Err.fault c.tokens.invariant c.tokens-test.true c.in-Err.ensures

pub returns-in-Ok-Some : goal.returns-in-Ok-Some
returns-in-Ok-Some c =
    end_means c.args.schema.now c.args.text.now c.tokens.reading c.in-Ok-Some.meaning c.tokens.invariant c.tokens-test.false (sym c.in-Ok-Some.field-0-is ∙ c.in-Ok-Some.ensures)

pub returns-in-Ok-None : goal.returns-in-Ok-None
returns-in-Ok-None c =
    end_fault c.args.schema.now c.args.text.now c.tokens.reading c.tokens.invariant c.tokens-test.false (sym c.in-Ok-None.field-0-is ∙ c.in-Ok-None.ensures)
