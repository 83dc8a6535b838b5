-- A root more.
use Rattle.std.proofs.Common.{map, refl, sym, ap, ◌∙◌, subst, arith}
use Rattle.std.specs.List.{AllByRecursion}
use Rattle.drill.specs.declared.drain_parts.Part.{Part}
use Rattle.drill.specs.Parts.{has_none, node_in}
use Rattle.drill.proofs.PartLemmas.{root_more}
use Rattle.drill.proofs.drain_parts.root_parts.Goals as goal

pub loop-node-preserved : goal.loop-node-preserved
loop-node-preserved c =
    let part : Part = record { node = c.loop-node.node; rows = c.new-rows.result } in
    let more = root_more c.loop-node.parts.items part c.loop-node.node c.loop-node.invariant.0 c.loop-node.invariant.1 refl c.new-rows.ensures.items in (
      ap (map node_in) c.in_ok-push.ensures.items ∙ more.0,
      subst (AllByRecursion has_none) (sym c.in_ok-push.ensures.items) more.1,
      omega (arith, c.loop-node-test.true),
    )
