-- The tables that served are new ones.
use Rattle.program.proofs.ServesLemmas.{alone_first, serves_new}
use Rattle.program.proofs.serves.serve.Goals as goal

pub serve-requires-clause-alone : goal.serve-requires-clause-alone
serve-requires-clause-alone g c κs within = alone_first _ _ c.in_ok-tables.ensures.passes

pub returns-clause-served : goal.returns-clause-served
returns-clause-served g c = serves_new _ _ _ _ _ _ _ _ _ _ _ _ _ _ c.in_ok-tables.ensures.specs c.in_ok-tables.ensures.passes c.in_ok-serve.ensures.serves
