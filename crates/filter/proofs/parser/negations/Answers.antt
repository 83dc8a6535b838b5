use Rattle.std.proofs.Common.{◌≡◌, ◌-◌, ◌+◌, suc, ap, sym, ◌∙◌, arith}
use Rattle.filter.specs.Machine.{negations}
use Rattle.filter.proofs.parser.negations.Goals as goal

pub loop-preserved : goal.loop-preserved
loop-preserved c =
    let left : c.args.nots - c.loop.counter ≡ suc (c.args.nots - (c.loop.counter + 1)) = omega arith in
    ap (negations (c.args.nots - (c.loop.counter + 1))) c.in_ok-meaning.ensures
    ∙ ap (λ k. negations k c.loop.meaning) (sym left) ∙ c.loop.invariant
