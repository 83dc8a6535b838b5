use Rattle.std.proofs.Common.{◌≡◌, All}
use Rattle.open_tables.specs.Tables.{HasItsColumns, specs_of, first_passes}
use Rattle.open_tables.proofs.tables.open_all.Given as goal

-- the tables so far, and the first passes to them
abbrev pub invariant-loop-spec : goal.invariant-loop-spec
invariant-loop-spec l = (specs_of l.each.items ≡ l.yielded) × (l.passes.items ≡ first_passes l.each.items) × All HasItsColumns l.each.items
