-- A last block that is full moves behind the others.
use Rattle.std.proofs.Common.{arith}
use Rattle.row_groups.proofs.KeptLemmas.{keeps_sealed}
use Rattle.row_groups.proofs.block.make_room.Goals as goal

pub returns-clause-keeps : goal.returns-clause-keeps
returns-clause-keeps c =
    let sealed = keeps_sealed c.args.full.now.items c.args.last.now.items c.args.last_start c.args.len c.requires (omega arith) in
    rw (c.in_ok-seal.ensures.full, c.in_ok-seal.ensures.last) sealed
