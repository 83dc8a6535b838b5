use Rattle.avro_rows.proofs.LongLemmas.{push-group, push-last}
use Rattle.avro_rows.proofs.longs.push_varint.Goals as goal

pub loop-rest-preserved : goal.loop-rest-preserved
loop-rest-preserved c =
    push-group c.loop-rest.out.items _ _ c.loop-rest.rest c.loop-rest-test.true c.in_ok-push.ensures.items c.loop-rest.invariant

pub returns : goal.returns
returns c = push-last c.loop-rest.out.items _ _ c.loop-rest.rest c.loop-rest-test.false c.in_ok-push-2.ensures.items c.loop-rest.invariant
