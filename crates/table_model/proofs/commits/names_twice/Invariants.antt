-- No stream was named twice so far, and the streams named so far are kept.
use Rattle.std.proofs.Common.{nat_eq}
use Rattle.std.specs.HashSet.{contains}
use Rattle.table_model.proofs.CommitLemmas.{NamedOnce}
use Rattle.table_model.proofs.commits.names_twice.Given as goal

abbrev pub invariant-loop-stream : goal.invariant-loop-stream
invariant-loop-stream l = NamedOnce l.streams l.stream-index l.has_default (contains nat_eq l.numbers)
