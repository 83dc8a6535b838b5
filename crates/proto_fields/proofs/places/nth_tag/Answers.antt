use Rattle.std.proofs.Common.{arith}
use Rattle.proto_fields.proofs.PlaceLemmas.{IfOk-bad, HasPassed-some, HasPassed-same, HasPassed-here, HasPassed-all}
use Rattle.proto_fields.proofs.MessageLemmas.{HasSeen-bad}
use Rattle.proto_fields.proofs.places.nth_tag.Goals as goal

pub returns-in_err-field : goal.returns-in_err-field
returns-in_err-field c = IfOk-bad c.args.bytes.now c.loop-at.at _ (HasSeen-bad c.args.bytes.now c.loop-at.invariant.seen c.loop-at.at c.loop-at.invariant.so_far c.loop-at-test.true c.in_err-field.ensures.read)

pub returns-then-left-eq0 : goal.returns-then-left-eq0
returns-then-left-eq0 c = HasPassed-here c.args.bytes.now c.args.number c.args.n c.loop-at.at c.in_ok-field.next c.loop-at.left c.in_ok-field.field c.loop-at.invariant (omega (arith, c.in_ok-field.ensures.next)) c.in_ok-field.ensures.next.1 c.in_ok-field.ensures.read (cc) c.if-left-eq0.true

pub loop-at-preserved-else-left-eq0 : goal.loop-at-preserved-else-left-eq0
loop-at-preserved-else-left-eq0 c = HasPassed-some c.args.bytes.now c.args.number c.args.n c.loop-at.at c.in_ok-field.next c.loop-at.left c.in_ok-field.field c.loop-at.invariant (omega (arith, c.in_ok-field.ensures.next)) c.in_ok-field.ensures.next.1 c.in_ok-field.ensures.read (cc) (omega arith)

pub loop-at-preserved : goal.loop-at-preserved
loop-at-preserved c = HasPassed-same c.args.bytes.now c.args.number c.args.n c.loop-at.at c.in_ok-field.next c.loop-at.left c.in_ok-field.field c.loop-at.invariant (omega (arith, c.in_ok-field.ensures.next)) c.in_ok-field.ensures.next.1 c.in_ok-field.ensures.read (cc)

pub returns : goal.returns
returns c = HasPassed-all c.args.bytes.now c.args.number c.args.n c.loop-at.at c.loop-at.left c.loop-at.invariant c.loop-at-test.false
