-- The errors so far are told.
use Rattle.std.proofs.Common.{◌≡◌, map, take}
use Rattle.call_plans.specs.Committed.{storage_error}
use Rattle.call_read.proofs.committed.storage_errors.Given as goal

abbrev pub invariant-loop-error : goal.invariant-loop-error
invariant-loop-error l = l.told.items ≡ map (storage_error l.texts) (take l.error-index l.errors)
