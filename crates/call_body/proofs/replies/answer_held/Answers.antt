-- One message more is answered, or the held bytes stop.
use Rattle.std.proofs.Common.{◌++◌, refl, ◌∙◌, []}
use Rattle.std.proofs.KnownBytes.{Appends-nil, Appends-trans}
use Rattle.grpc_frame.specs.Frame.{frame}
use Rattle.call_body.proofs.ReadsLemmas.{Reads-none, ReadsPartly-all}
use Rattle.call_body.proofs.StepLemmas.{frame-some, Reads-answered, StepsTo-refused, StepsTo-outside, StepsTo-memory}
use Rattle.call_body.proofs.replies.answer_held.Goals as goal

pub loop-message-init : goal.loop-message-init
loop-message-init g c = (([], Reads-none _ _ _ _, Appends-nil _), refl, c.requires)

pub loop-message-smaller : goal.loop-message-smaller
loop-message-smaller g c =
    let takes = rw c.in-Ok-Message.field-0-is at c.in-Ok-Message.ensures.takes in
    rw takes.0 (frame-some c.in-Ok-Message.message c.next.new.self.bytes)

pub loop-message-preserved : goal.loop-message-preserved
loop-message-preserved g c =
    let inv = c.loop-message.invariant in
    let takes = rw c.in-Ok-Message.field-0-is at c.in-Ok-Message.ensures.takes in
    let one = rw c.bytes.ensures at c.in-Went.ensures.one in (
      (
        inv.0.0 ++ frame one.0,
        Reads-answered _ _ _ _ c.next.new.self.bytes inv.0.0 c.in-Ok-Message.message one.0 _ _ _ inv.0.1 takes.0 (rw inv.2 at takes.1) one.1,
        Appends-trans _ _ _ inv.0.0 (frame one.0) inv.0.2 one.2,
      ),
      c.in-Went.ensures.cause ∙ inv.1,
      c.in-Ok-Message.ensures.limit ∙ inv.2,
    )

pub returns-in-Refused-clause-steps : goal.returns-in-Refused-clause-steps
returns-in-Refused-clause-steps g c =
    let inv = c.loop-message.invariant in
    let one = rw c.bytes.ensures at c.in-Refused.ensures.one in
    StepsTo-refused _ _ _ _ c.next.new.self.bytes inv.0.0 c.in-Ok-Message.message _ _ _ _ _ _ c.loop-message.deframer.limit inv.0.1 inv.0.2 inv.2
    (rw c.in-Ok-Message.field-0-is at c.in-Ok-Message.ensures.part) one

pub returns-in-Outside-clause-steps : goal.returns-in-Outside-clause-steps
returns-in-Outside-clause-steps g c =
    let inv = c.loop-message.invariant in
    let takes = rw c.in-Ok-Message.field-0-is at c.in-Ok-Message.ensures.takes in
    let one = rw c.bytes.ensures at c.in-Outside.ensures.one in
    StepsTo-outside _ _ _ _ c.next.new.self.bytes c.next.new.self.bytes inv.0.0 c.in-Ok-Message.message _ _ _ _ _ _ inv.0.1 inv.0.2 takes.0 (rw inv.2 at takes.1) one

pub returns-in-Memory-clause-steps : goal.returns-in-Memory-clause-steps
returns-in-Memory-clause-steps g c =
    let inv = c.loop-message.invariant in
    let takes = rw c.in-Ok-Message.field-0-is at c.in-Ok-Message.ensures.takes in
    let one = rw c.bytes.ensures at c.in-Memory.ensures.one in
    StepsTo-memory _ _ _ _ c.next.new.self.bytes c.next.new.self.bytes inv.0.0 c.in-Ok-Message.message _ _ _ _ _ _ inv.0.1 inv.0.2 takes.0 (rw inv.2 at takes.1) one

pub returns-in-Err-clause-steps : goal.returns-in-Err-clause-steps
returns-in-Err-clause-steps g c =
    let inv = c.loop-message.invariant in
    (inv.0.0, ReadsPartly-all _ _ _ _ inv.0.0 _ _ inv.0.1, inv.0.2)
