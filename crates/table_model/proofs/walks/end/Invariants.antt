-- The rows of the stream so far.
use Rattle.std.proofs.Common.{◌≡◌, length, take}
use Rattle.std.specs.Prelude.{sum_by}
use Rattle.table_model.specs.Content.{rows_onto}
use Rattle.table_model.proofs.walks.end.Given as goal

abbrev pub invariant-loop-entry : goal.invariant-loop-entry
invariant-loop-entry l = l.end ≡ sum_by (λ entry. length (rows_onto l.stream entry.change)) (take l.entry-index l.entries)
