-- The next place in the group, or the first of the next group.
use Rattle.std.proofs.Common.{arith}
use Rattle.read_cursor.proofs.WalkLemmas.{place_short, place_few}
use Rattle.read_cursor.proofs.walk.place_behind.Goals as goal

pub overflow_add-result : goal.overflow_add-result
overflow_add-result c = omega (arith, place_short _ _ _ _ c.requires.here, c.requires.few)

pub overflow_add-result-else-place-rows : goal.overflow_add-result-else-place-rows
overflow_add-result-else-place-rows c = omega (arith, place_few _ _ _ _ c.requires.each c.requires.here, c.requires.few)
