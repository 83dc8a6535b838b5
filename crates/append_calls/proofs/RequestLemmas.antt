-- What a message carries is smaller than 2^32 bytes, as the message is.
use Rattle.std.proofs.Common.{◌≡◌, ℕ, ◌≤◌, ◌<◌, ◌^◌, List, length, Option, Some, None, Result, Ok, IfOk, IfSome, subst, arith}
use Rattle.write_msgs.specs.declared.faults.MsgFault.{MsgFault}
use Rattle.write_msgs.specs.declared.request.AppendRowsRequest.{AppendRowsRequest}
use Rattle.write_msgs.specs.Request.{append_rows_request_of}
use Rattle.call_append.specs.Writer.{schema_named}
use Rattle.call_append.specs.Sizes.{IsWithin}
use Rattle.call_append.proofs.RequestSizes.{request_fits}

-- a smaller message fits a larger size
larger : (small large : ℕ) (request : AppendRowsRequest) → small ≤ large → IsWithin small request → IsWithin large request
larger small large request le is =
    record { rows = record { few = omega (arith, le, is.rows.few); small = omega (arith, le, is.rows.small) }; schema = wider (schema_named request) is.schema }
  where
    wider : (o : Option (List ℕ)) → IfSome o (λ d. length d ≤ small) → IfSome o (λ d. length d ≤ large)
    wider (Some d) h = omega (arith, le, h)
    wider None h = tt

pub request_is_small : (message : List ℕ) (request : AppendRowsRequest) → length message < 2 ^ 32 → append_rows_request_of message ≡ Ok request → IsWithin 4294967295 request
request_is_small message request short is =
    larger (length message) 4294967295 request (omega (arith, short)) (subst (λ (r : Result AppendRowsRequest MsgFault). IfOk r (IsWithin (length message))) is (request_fits message))
