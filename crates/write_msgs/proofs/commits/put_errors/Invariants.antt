-- The errors so far are written.
use Rattle.std.proofs.Common.{◌≡◌, ◌++◌, take}
use Rattle.std.specs.List.{flat_map}
use Rattle.proto_fields.specs.Record.{record_bytes}
use Rattle.write_msgs.specs.declared.numbers.TheConstants.{STREAM_ERRORS}
use Rattle.write_msgs.specs.Writing.{bytes_field}
use Rattle.write_msgs.specs.CommitPartsBytes.{storage_error_bytes}
use Rattle.write_msgs.proofs.commits.put_errors.Given as goal

abbrev pub invariant-loop-error : goal.invariant-loop-error
invariant-loop-error l = l.out ≡ l.fn.out ++ flat_map (λ error. record_bytes (bytes_field STREAM_ERRORS (storage_error_bytes error))) (take l.error-index l.errors)
