use Rattle.std.proofs.Common.{arith, ◌*◌, length-append}
use Rattle.proto_fields.proofs.VarintLemmas.{length-varint_of, length-varint_of-small}
use Rattle.proto_fields.proofs.writing.Out.varint.Goals as goal

pub returns-clause-size : goal.returns-clause-size
returns-clause-size c = rw (c.put_varint-2.ensures.items, c.put_varint.ensures.items, c.in_ok-reserve.ensures.items, c.self.view_is) (simp length-append (omega (arith, length-varint_of c.args.v, length-varint_of-small (c.args.number * 8) (omega arith))))
