-- The parts in the place of the one that was taken out.
use Rattle.std.proofs.Common.{List, refl, ap, ◌∙◌}
use Rattle.std.specs.List.{insert}
use Rattle.drill.specs.declared.drain_parts.Part.{Part}
use Rattle.drill.proofs.StepLemmas.{indexed}
use Rattle.drill.proofs.drain_parts.open_part.Goals as goal

pub returns : goal.returns
returns c =
    let first : Part = record { node = c.args.left; rows = c.in_ok-first.first } in
    let second : Part = record { node = c.args.right; rows = c.in_ok-first.rest } in
    record {
      old = c.remove-part.result;
      there = indexed c.args.parts.items c.args.place c.remove-part.result c.requires c.remove-part.ensures.value;
      first = first;
      second = second;
      after_is = c.in_ok-insert-2.ensures.items
          ∙ ap (λ (xs : List Part). insert xs c.args.place first) (c.in_ok-insert.ensures.items ∙ ap (λ (xs : List Part). insert xs c.args.place second) c.remove-part.ensures.items);
      left_is = refl;
      right_is = refl;
      first_rows = c.in_ok-first.ensures.left;
      second_rows = c.in_ok-first.ensures.right;
    }
