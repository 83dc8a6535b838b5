-- One line behind another.
use Rattle.std.proofs.Common.{ap, ◌∙◌}
use Rattle.std.specs.Int.{w128}
use Rattle.std.proofs.lemmas.Int.{to_z-of_z}
use Rattle.drill.specs.Summary.{lines_of}
use Rattle.drill.proofs.TextLemmas.{five}
use Rattle.drill.proofs.lines.lines_of.Goals as goal

pub returns : goal.returns
returns c =
    c.from_string.ensures
    ∙ five _ _ _ _ _ _ _ _ _ _ _ c.new-text.ensures.bytes c.in_ok-add_line.ensures c.in_ok-add_line-2.ensures c.in_ok-add_line-3.ensures c.in_ok-add_line-4.ensures c.in_ok-add_line-5.ensures
    ∙ ap (lines_of c.args.appends c.args.repeats c.args.visible c.args.matching) (to_z-of_z w128 c.args.sum c.ranges.sum)
