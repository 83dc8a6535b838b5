-- The passes are those of new tables, which no other pass acts on.
use Rattle.std.proofs.Common.{◌≡◌}
use Rattle.program.proofs.PipeLemmas.{piped_as, nothing_piped}
use Rattle.program.proofs.pipes.serve.Goals as goal

pub returns-in-Ok-clause-served : goal.returns-in-Ok-clause-served
returns-in-Ok-clause-served g c = piped_as c.args.specs.items _ _ _ _ _ _ c.in-Ok.ensures.specs c.in-Ok.ensures.passes c.serve_connection-passes.ensures.serves

pub returns-in-Err-clause-served : goal.returns-in-Err-clause-served
returns-in-Err-clause-served g c = nothing_piped _ _
