use Rattle.std.proofs.Common.{arith}
use Rattle.hpack_codes.proofs.IntegerLemmas.{part_more, part_all}
use Rattle.hpack_codes.proofs.ints.write_groups.Goals as goal

pub loop-rest-preserved : goal.loop-rest-preserved
loop-rest-preserved c = part_more c.loop-rest.octets c.loop-rest.len c.loop-rest.rest _ (omega arith) c.loop-rest.invariant c.loop-rest-test.true

pub returns-clause-spelled : goal.returns-clause-spelled
returns-clause-spelled c = part_all c.loop-rest.octets c.loop-rest.len c.loop-rest.rest _ (omega arith) c.loop-rest.invariant c.loop-rest-test.false
