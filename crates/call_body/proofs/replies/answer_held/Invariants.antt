-- The messages so far are answered, and the bytes behind them are held.
use Rattle.std.proofs.Common.{◌≡◌, ℕ, List, length}
use Rattle.std.specs.Io.KnownBytes.{Appends}
use Rattle.grpc_frame.specs.declared.limits.TheConstants.{MESSAGE_LIMIT}
use Rattle.call_body.specs.Reading.{Reads}
use Rattle.call_body.proofs.replies.answer_held.Given as goal

abbrev pub invariant-loop-message : goal.invariant-loop-message
invariant-loop-message g l =
    ((replied : List ℕ)
    × Reads g.A.Answers.readable g.A.Answers.answers l.initial.deframer.bytes l.deframer.bytes replied l.initial.answers l.answers
    × Appends (g.O.Sink.taken l.initial.out) (g.O.Sink.taken l.out) replied)
    × (g.O.Sink.faults l.out ≡ g.O.Sink.faults l.initial.out)
    × (l.deframer.limit ≡ MESSAGE_LIMIT)

abbrev pub decreases-loop-message : goal.decreases-loop-message
decreases-loop-message g l = length l.deframer.bytes
