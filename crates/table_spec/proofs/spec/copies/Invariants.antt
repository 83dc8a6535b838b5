use Rattle.std.proofs.Common.{◌≡◌, take}
use Rattle.table_spec.proofs.spec.copies.Given as goal

-- the columns so far
abbrev pub invariant-loop-column : goal.invariant-loop-column
invariant-loop-column l = l.copied.items ≡ take l.column-index l.columns
