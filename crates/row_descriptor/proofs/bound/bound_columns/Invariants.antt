use Rattle.std.proofs.Common.{◌≡◌, take, map}
use Rattle.row_descriptor.specs.Binding.{bound_column}
use Rattle.row_descriptor.proofs.bound.bound_columns.Given as goal

abbrev pub invariant-loop-column : goal.invariant-loop-column
invariant-loop-column l = l.bound.items ≡ map (bound_column l.fields) (take l.column-index l.columns)
