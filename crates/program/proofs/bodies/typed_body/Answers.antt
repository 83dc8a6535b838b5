-- The table begins with its one write stream and no writer schema.
use Rattle.std.proofs.Common.{◌≡◌}
use Rattle.program.proofs.BodyLemmas.{with_last}
use Rattle.program.proofs.RunLemmas.{nothing_ran}
use Rattle.program.proofs.bodies.typed_body.Goals as goal

pub returns-in-Ok : goal.returns-in-Ok
returns-in-Ok g c =
    let ran = rw c.in-Ok.ensures at c.answer_body.ensures in
    record {
      ran = record {
        ending = (ran.ending.0, ran.ending.1, with_last _ _ _ _ _ _ _ ran.ending.2);
        cause = ran.cause;
        read = ran.read;
        takes = ran.takes;
        complete = ran.complete;
      };
    }

pub returns-in-Err : goal.returns-in-Err
returns-in-Err g c = record { ran = nothing_ran _ _ _ _ }
