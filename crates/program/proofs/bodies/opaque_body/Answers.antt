-- The table begins without a row.
use Rattle.std.proofs.Common.{◌≡◌}
use Rattle.program.proofs.BodyLemmas.{with_last}
use Rattle.program.proofs.bodies.opaque_body.Goals as goal

pub returns : goal.returns
returns g c =
    let ran = rw c.new-table.ensures at c.answer_body.ensures in
    record {
      ran = record {
        ending = (ran.ending.0, ran.ending.1, with_last _ _ _ _ _ _ _ ran.ending.2);
        cause = ran.cause;
        read = ran.read;
        takes = ran.takes;
        complete = ran.complete;
      };
    }
