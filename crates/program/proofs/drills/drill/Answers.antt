-- The text is one of a drill.
use Rattle.program.proofs.drills.drill.Goals as goal

pub write_text-requires : goal.write_text-requires
write_text-requires g c = record {
  table = c.in-Ok.done.table;
  session = c.in-Ok.done.session;
  repeats = c.in-Ok.done.repeats;
  sums = c.in-Ok.ensures;
}
