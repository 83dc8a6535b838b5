use Rattle.std.proofs.Common.{◌≡◌, map, take}
use Rattle.call_append.specs.Response.{row_error}
use Rattle.call_append.proofs.responses.row_errors.Given as goal

-- the errors of the faults so far
abbrev pub invariant-loop-fault : goal.invariant-loop-fault
invariant-loop-fault l = l.errors.items ≡ map (row_error l.columns) (take l.fault-index l.faults)
