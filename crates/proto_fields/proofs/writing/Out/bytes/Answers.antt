use Rattle.std.proofs.Common.{arith, length, ◌*◌, ◌+◌, length-append}
use Rattle.proto_fields.proofs.VarintLemmas.{length-varint_of, length-varint_of-small}
use Rattle.proto_fields.proofs.writing.Out.bytes.Goals as goal

pub returns-clause-size : goal.returns-clause-size
returns-clause-size c = rw (c.extend_from_slice.ensures.items, c.unwrap.ensures, c.put_head.ensures.items, c.in_ok-reserve.ensures.items, c.self.view_is) (simp length-append (omega (arith, length-varint_of (length c.args.v.now), length-varint_of-small (c.args.number * 8 + 2) (omega arith))))
