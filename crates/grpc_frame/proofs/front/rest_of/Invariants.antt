use Rattle.std.proofs.Common.{◌≡◌, ℕ, List, ◌++◌, length}
use Rattle.std.specs.List.{AllByRecursion}
use Rattle.grpc_frame.specs.Frame.{framed}
use Rattle.grpc_frame.specs.Messages.{IsWithin}
use Rattle.grpc_frame.proofs.front.rest_of.Given as goal

-- whole messages stand before the rest
abbrev pub invariant-loop-len : goal.invariant-loop-len
invariant-loop-len l =
    (messages : List (List ℕ)) × (l.bytes ≡ framed messages ++ l.rest) × AllByRecursion (IsWithin l.limit) messages

abbrev pub decreases-loop-len : goal.decreases-loop-len
decreases-loop-len l = length l.rest
