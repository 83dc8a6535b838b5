-- Some whole messages were taken.
use Rattle.std.proofs.Common.{◌≡◌, length}
use Rattle.grpc_frame.specs.declared.limits.TheConstants.{MESSAGE_LIMIT}
use Rattle.conn_requests.proofs.TakenLemmas.{Taking}
use Rattle.conn_requests.proofs.messages.hear_messages.Given as goal

abbrev pub invariant-loop-message : goal.invariant-loop-message
invariant-loop-message l =
    Taking l.initial.deframer.bytes l.deframer.bytes l.initial.kind l.kind l.initial.asks.items l.asks.items × (l.deframer.limit ≡ MESSAGE_LIMIT)

abbrev pub decreases-loop-message : goal.decreases-loop-message
decreases-loop-message l = length l.deframer.bytes
