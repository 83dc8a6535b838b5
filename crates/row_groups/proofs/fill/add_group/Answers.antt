-- The group stands behind those of the last block, which has room for it.
use Rattle.std.proofs.Common.{arith}
use Rattle.row_groups.proofs.KeptLemmas.{keeps_pushed}
use Rattle.row_groups.proofs.fill.add_group.Goals as goal

pub returns-clause-keeps : goal.returns-clause-keeps
returns-clause-keeps c =
    let some = c.len.ensures.some in
    let value = c.len.ensures.value in
    let pushed = keeps_pushed _ _ _ _ c.in_ok-last_start.ensures.keeps c.args.slice c.in_ok-last_start.ensures.room (omega (arith, some, value)) c.requires.room in
    rw (c.in_ok-push.ensures.items, c.of.ensures, value) pushed
