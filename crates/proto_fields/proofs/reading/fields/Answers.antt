use Rattle.std.proofs.Common.{ap}
use Rattle.proto_fields.specs.Message.{contents}
use Rattle.proto_fields.specs.Spans.{located_fields}
use Rattle.proto_fields.proofs.MessageLemmas.{HasSeen-bad, HasRead-none, HasRead-more, HasRead-all}
use Rattle.proto_fields.proofs.reading.fields.Goals as goal

pub loop-at-init : goal.loop-at-init
loop-at-init c = rw c.new-found.ensures.items (HasRead-none c.args.bytes.now)

pub returns-in_default-clause-exact : goal.returns-in_default-clause-exact
returns-in_default-clause-exact c = ap contents (HasSeen-bad c.args.bytes.now c.loop-at.invariant.seen c.loop-at.at c.loop-at.invariant.so_far c.loop-at-test.true c.in_default.ensures.read)

pub returns-in_default-clause-located : goal.returns-in_default-clause-located
returns-in_default-clause-located c = ap located_fields (HasSeen-bad c.args.bytes.now c.loop-at.invariant.seen c.loop-at.at c.loop-at.invariant.so_far c.loop-at-test.true c.in_default.ensures.read)

pub loop-at-preserved : goal.loop-at-preserved
loop-at-preserved c = rw c.in_ok-push.ensures.items (HasRead-more c.args.bytes.now c.loop-at.found.items c.loop-at.at c.in-Some.next c.in-Some.field c.loop-at.invariant c.in-Some.ensures.read c.in-Some.ensures.next c.in-Some.ensures.within c.in-Some.ensures.value)

pub returns-clause-exact : goal.returns-clause-exact
returns-clause-exact c = (HasRead-all c.args.bytes.now c.loop-at.found.items c.loop-at.at c.loop-at.invariant c.loop-at-test.false).0

pub returns-clause-located : goal.returns-clause-located
returns-clause-located c = (HasRead-all c.args.bytes.now c.loop-at.found.items c.loop-at.at c.loop-at.invariant c.loop-at-test.false).1
