-- More rows of the part at the place.
use Rattle.std.proofs.Common.{refl}
use Rattle.drill.proofs.ReadLemmas.{first_taken}
use Rattle.drill.proofs.StepLemmas.{indexed}
use Rattle.drill.proofs.drain_parts.read_part.Goals as goal

pub returns : goal.returns
returns c = record {
  old = c.index_mut.result.now;
  there = indexed c.args.parts.items c.args.place c.index_mut.result.now c.requires c.index_mut.ensures.value;
  new = record { node = c.index_mut.result.now.node; rows = c.read_some.new.rows };
  after_is = refl;
  node = refl;
  rows = first_taken c.index_mut.result.now.rows.items _ c.read_some.new.rows.items c.args.count c.in_ok-read_some.ensures;
}
