-- A chunk more.
use Rattle.std.proofs.Common.{ap, ◌∙◌}
use Rattle.read_cursor.specs.Reading.{Reading}
use Rattle.drill.proofs.ReadLemmas.{chunk_first, chunk_more}
use Rattle.drill.proofs.drain_reads.read_rest.Goals as goal

pub loop-cursor-preserved : goal.loop-cursor-preserved
loop-cursor-preserved c =
    let gives = rw c.in-Rows.is at c.in_ok-next.ensures.gives in
    record {
      lease = ap (λ (reading : Reading). reading.lease) gives.3 ∙ c.loop-cursor.invariant.lease;
      sum = chunk_more _ c.loop-cursor.rows c.in-Rows.next _ _ _ c.loop-cursor.invariant.sum c.in_ok-append-in-Rows.ensures
          (chunk_first c.loop-cursor.cursor c.next_chunk.new.self c.in-Rows.next c.in-Rows.count gives);
    }
