use Rattle.std.proofs.Common.{◌≡◌, ◌++◌, ◌+◌, Option, Some, None, drop, ap, sym, ◌∙◌, option_map}
use Rattle.column_types.specs.declared.cell.Cell.{Cell}
use Rattle.filter.specs.declared.literal.Literal.{Literal}
use Rattle.filter.specs.Literal.{cells_of}
use Rattle.filter.proofs.Values.{cells_more, cells_none, cells_end, rest_at}
use Rattle.filter.proofs.literal.cells_of.Goals as goal

pub returns-in_default : goal.returns-in_default
returns-in_default c =
    cells_none c.args.kind c.loop-literal.values.items c.literal-item.result (drop (c.loop-literal.literal-index + 1) c.args.literals.now) (sym c.in_default.is ∙ c.in_ok-value.ensures)
    ∙ ap (λ rest. option_map (λ more. c.loop-literal.values.items ++ more) (cells_of c.args.kind rest)) (sym (rest_at c.args.literals.now c.loop-literal.literal-index c.literal-item.result c.loop-literal-test.true c.literal-item.is))
    ∙ c.loop-literal.invariant

pub loop-literal-preserved : goal.loop-literal-preserved
loop-literal-preserved c =
    ap (λ values. option_map (λ more. values ++ more) (cells_of c.args.kind (drop (c.loop-literal.literal-index + 1) c.args.literals.now))) c.in_ok-push.ensures.items
    ∙ cells_more c.args.kind c.loop-literal.values.items c.in-Some.value c.literal-item.result (drop (c.loop-literal.literal-index + 1) c.args.literals.now) (sym c.in-Some.is ∙ c.in_ok-value.ensures)
    ∙ ap (λ rest. option_map (λ more. c.loop-literal.values.items ++ more) (cells_of c.args.kind rest)) (sym (rest_at c.args.literals.now c.loop-literal.literal-index c.literal-item.result c.loop-literal-test.true c.literal-item.is))
    ∙ c.loop-literal.invariant

pub returns : goal.returns
returns c =
    ap Some c.from_vec.ensures ∙ cells_end c.args.kind c.loop-literal.values.items c.args.literals.now c.loop-literal.literal-index c.loop-literal-test.false
    ∙ c.loop-literal.invariant
