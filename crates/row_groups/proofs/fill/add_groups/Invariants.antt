-- The groups so far stand behind the others, in full blocks behind those that were there.
use Rattle.std.proofs.Common.{◌≡◌, ◌+◌, ◌<◌, ◌^◌, ◌++◌, length, take}
use Rattle.std.specs.Vec.Iter.{into_iter_items}
use Rattle.row_groups.specs.Places.{joined}
use Rattle.row_groups.specs.Kept.{all_rows, Keeps}
use Rattle.row_groups.proofs.fill.add_groups.Given as goal

abbrev pub invariant-loop-slice : goal.invariant-loop-slice
invariant-loop-slice l =
    (goal.iterator-loop-slice).can_next l.slice-iterator ×
    (goal.iterator-loop-slice).is_finite l.slice-iterator ×
    Keeps l.full.items l.last.items l.after.last_start l.after.len ×
    (all_rows l.full.items l.last.items ++ into_iter_items l.slice-iterator ≡ all_rows l.fn.full.items l.fn.last.items ++ l.fn.slices.items) ×
    (l.after.len + length (joined (into_iter_items l.slice-iterator)) < 2 ^ 32) ×
    (take (length l.fn.full.items) l.full.items ≡ l.fn.full.items)
