-- All of the text was written, or its first bytes.
use Rattle.std.proofs.Common.{true, false, ◌∙◌}
use Rattle.program.proofs.DrillLemmas.{wrote}
use Rattle.program.proofs.drills.write_text.Goals as goal

pub returns-then-written : goal.returns-then-written
returns-then-written g c =
    wrote c.args.text.now c.as_bytes.result.now _ _ _ _ true c.requires (c.as_bytes.ensures.value ∙ c.text.ensures) (rw c.if-written.true at c.write_all-written.ensures)

pub returns-else-written : goal.returns-else-written
returns-else-written g c =
    wrote c.args.text.now c.as_bytes.result.now _ _ _ _ false c.requires (c.as_bytes.ensures.value ∙ c.text.ensures) (rw c.if-written.false at c.write_all-written.ensures)
