-- The lines of the table's history.
use Rattle.std.proofs.Common.{rules, FitsSigned, ap, ◌∙◌, arith}
use Rattle.std.specs.Int.{w128}
use Rattle.std.proofs.lemmas.Int.{ints, to_z-of_z}
use Rattle.drill.specs.Summary.{appends_of}
use Rattle.drill.proofs.TextLemmas.{lines_same}
use Rattle.drill.proofs.lines.text_of.Goals as goal

pub returns : goal.returns
returns c =
    let fits : FitsSigned w128 c.sum_of.result = omega (arith, ints, c.sum_of.ensures.low, c.sum_of.ensures.high) in
    lines_same c.args.repeats _ _ _ _ _ _ _ _ c.in_ok-text.text
    (c.appends_of-appends.ensures ∙ ap appends_of (c.as_slice.ensures.value ∙ c.in_ok-history.ensures)) c.visible.ensures (search rules)
    (to_z-of_z w128 c.sum_of.result fits ∙ c.sum_of.ensures.sum) c.in_ok-text.ensures
