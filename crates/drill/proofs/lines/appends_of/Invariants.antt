-- The appends so far.
use Rattle.std.proofs.Common.{◌≡◌, take}
use Rattle.drill.specs.Summary.{appends_of}
use Rattle.drill.proofs.lines.appends_of.Given as goal

abbrev pub invariant-loop-entry : goal.invariant-loop-entry
invariant-loop-entry l = l.count ≡ appends_of (take l.entry-index l.entries)
