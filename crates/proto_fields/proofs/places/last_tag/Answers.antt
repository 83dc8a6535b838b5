use Rattle.std.proofs.Common.{arith}
use Rattle.proto_fields.proofs.PlaceLemmas.{IfOk-bad, HasLast-some, HasLast-same, HasLast-all}
use Rattle.proto_fields.proofs.MessageLemmas.{HasSeen-bad}
use Rattle.proto_fields.proofs.places.last_tag.Goals as goal

pub returns-in_err-field : goal.returns-in_err-field
returns-in_err-field c = IfOk-bad c.args.bytes.now c.loop-at.at _ (HasSeen-bad c.args.bytes.now c.loop-at.invariant.seen c.loop-at.at c.loop-at.invariant.so_far c.loop-at-test.true c.in_err-field.ensures.read)

pub loop-at-preserved-then-is_some : goal.loop-at-preserved-then-is_some
loop-at-preserved-then-is_some c = HasLast-some c.args.bytes.now c.args.number c.loop-at.at c.in_ok-field.next c.in_ok-field.field c.loop-at.last c.loop-at.invariant (omega (arith, c.in_ok-field.ensures.next)) c.in_ok-field.ensures.next.1 c.in_ok-field.ensures.read (cc)

pub loop-at-preserved : goal.loop-at-preserved
loop-at-preserved c = HasLast-same c.args.bytes.now c.args.number c.loop-at.at c.in_ok-field.next c.in_ok-field.field c.loop-at.last c.loop-at.invariant (omega (arith, c.in_ok-field.ensures.next)) c.in_ok-field.ensures.next.1 c.in_ok-field.ensures.read (cc)

pub returns : goal.returns
returns c = HasLast-all c.args.bytes.now c.args.number c.loop-at.at c.loop-at.last c.loop-at.invariant c.loop-at-test.false
