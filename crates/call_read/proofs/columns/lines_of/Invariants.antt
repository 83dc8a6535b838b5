use Rattle.std.proofs.Common.{◌≡◌, map, take}
use Rattle.call_read.specs.Lines.{line_of}
use Rattle.call_read.proofs.columns.lines_of.Given as goal

-- the columns so far
abbrev pub invariant-loop-column : goal.invariant-loop-column
invariant-loop-column l = l.lines.items ≡ map line_of (take l.column-index l.columns)
