-- The rows of all entries are the stream's.
use Rattle.std.proofs.Common.{arith}
use Rattle.std.proofs.lemmas.Grind.{common_steps}
use Rattle.table_model.proofs.WalkLemmas.{end_is_sum}
use Rattle.table_model.proofs.walks.end.Goals as goal

pub returns : goal.returns
returns c = let rows = end_is_sum c.args.entries.now c.args.stream in grind (arith, common_steps)
