-- One row more, or the end of the response.
use Rattle.std.proofs.Common.{arith}
use Rattle.row_responses.proofs.BodyLemmas.{goes_on, ends, ends_now}
use Rattle.row_responses.proofs.batch.next_batch.Goals as goal

pub loop-count-preserved : goal.loop-count-preserved
loop-count-preserved c = record {
  far = goes_on c.args.schema.now c.args.cursor.now c.loop-count.cursor c.write_next.new.cursor c.loop-count.written.items c.write_next.new.written.items c.loop-count.count
      c.loop-count.invariant.far (rw c.in-Written.is at c.in_ok-write_next.ensures.steps);
  few = omega (arith, c.loop-count-test.true);
}

pub returns-in-Full-clause-batches : goal.returns-in-Full-clause-batches
returns-in-Full-clause-batches c =
    rw c.batch_of.ensures
    (ends_now c.args.schema.now c.args.cursor.now c.loop-count.cursor c.write_next.new.cursor c.loop-count.written.items c.write_next.new.written.items c.loop-count.count
    c.in_ok-write_next.field-0 c.loop-count.invariant.far c.loop-count-test.true c.in_ok-write_next.ensures.steps c.in-Full.is)

pub returns-clause-batches : goal.returns-clause-batches
returns-clause-batches c =
    rw c.batch_of-2.ensures
    (ends c.args.schema.now c.args.cursor.now c.loop-count.cursor c.loop-count.written.items c.loop-count.count c.loop-count.invariant.far c.loop-count.invariant.few
    (λ room more. absurd (omega (arith, c.loop-count-test.false))) (λ none. absurd (omega (arith, c.loop-count-test.false))))
