-- What is written so far is the data of as many of the rows left.
use Rattle.std.proofs.Common.{◌-◌, ◌≤◌}
use Rattle.row_responses.proofs.BodyLemmas.{SoFar}
use Rattle.row_responses.proofs.batch.next_batch.Given as goal

abbrev pub invariant-loop-count : goal.invariant-loop-count
invariant-loop-count l = record {
  far : SoFar l.schema l.initial.cursor l.cursor l.written.items l.count;
  few : l.count ≤ 1024;
}

abbrev pub decreases-loop-count : goal.decreases-loop-count
decreases-loop-count l = 1024 - l.count
