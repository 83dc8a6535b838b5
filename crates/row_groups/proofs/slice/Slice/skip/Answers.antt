-- What is left of the list begins that much later.
use Rattle.std.proofs.Common.{◌≤◌, length, drop, ap, ◌∙◌, arith}
use Rattle.std.specs.Arc.{arc_value}
use Rattle.std.proofs.lemmas.List.{length-take}
use Rattle.row_groups.proofs.SliceLemmas.{skipped}
use Rattle.row_groups.proofs.slice.Slice.skip.Goals as goal

pub returns : goal.returns
returns c =
    let within : c.args.count ≤ c.self.inside.len =
    omega (arith, c.requires, ap length c.self.view_is, length-take c.self.inside.len (drop c.self.inside.from (arc_value c.self.inside.rows))) in
    skipped (arc_value c.self.inside.rows) c.self.inside.from c.self.inside.len c.args.count within ∙ ap (drop c.args.count) c.self.view_is
