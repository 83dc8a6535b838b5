-- The rows of a batch fit the table.
use Rattle.std.proofs.Common.{◌∙◌}
use Rattle.drill.proofs.TakenLemmas.{batch_taken}
use Rattle.drill.proofs.writers.append_of.Goals as goal

pub returns : goal.returns
returns c = batch_taken c.args.writer c.args.batch c.args.stream _ _ _ c.requires.writer c.requires.batch (c.from_vec.ensures ∙ c.in_ok-rows.ensures) c.bytes_of-bytes.ensures
