-- The piece copied and the bytes behind it are the bytes that were left.
use Rattle.std.proofs.Common.{◌+◌, ◌≤◌, length, arith}
use Rattle.outside.proofs.Fronts.{piece_and_rest}
use Rattle.outside.proofs.memory_sources.MemSourceSource.read.Goals as goal

pub returns-in-Some-clause-takes : goal.returns-in-Some-clause-takes
returns-in-Some-clause-takes c =
    let within : c.self.inside.at + c.in-Some.n ≤ length c.self.inside.input.items = omega (arith, c.in-Some.ensures.within) in
    rw (← c.self.view_is) (piece_and_rest _ _ _ _ within (rw c.deref.ensures.value at c.copy_to_front.ensures.front))
