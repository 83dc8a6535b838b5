-- The bytes so far are read, and an unfinished message is held.
use Rattle.std.proofs.Common.{◌≡◌, ◌+◌, ◌-◌}
use Rattle.grpc_frame.specs.declared.limits.TheConstants.{MESSAGE_LIMIT}
use Rattle.call_body.specs.declared.limits.TheConstants.{BODY_LIMIT}
use Rattle.call_body.specs.Reading.{IsUnfinished}
use Rattle.call_body.proofs.At.{At}
use Rattle.call_body.proofs.bodies.read_body.Given as goal

abbrev pub invariant-loop-read : goal.invariant-loop-read
invariant-loop-read g l =
    At g.A.Answers.readable g.A.Answers.answers (g.I.Source.left l.initial.input) (g.I.Source.left l.input)
    (g.O.Sink.taken l.initial.out) (g.O.Sink.taken l.out) l.initial.answers l.answers l.deframer.bytes l.read
    × IsUnfinished l.deframer.bytes
    × (l.deframer.limit ≡ MESSAGE_LIMIT)
    × (g.I.Source.faults l.input ≡ g.I.Source.faults l.initial.input)
    × (g.O.Sink.faults l.out ≡ g.O.Sink.faults l.initial.out)

abbrev pub decreases-loop-read : goal.decreases-loop-read
decreases-loop-read g l = BODY_LIMIT + 1 - l.read
