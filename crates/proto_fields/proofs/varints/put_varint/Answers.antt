use Rattle.std.proofs.Common.{ap, ◌++◌, ◌∙◌}
use Rattle.proto_fields.proofs.VarintLemmas.{put_varint_is}
use Rattle.proto_fields.proofs.varints.put_varint.Goals as goal

pub returns-clause-items : goal.returns-clause-items
returns-clause-items c = c.put_number.ensures.items ∙ ap (λ more. c.args.bytes.now.items ++ more) (put_varint_is c.args.n)
