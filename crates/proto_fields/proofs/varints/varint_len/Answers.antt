use Rattle.std.proofs.Common.{length, ap, ◌∙◌}
use Rattle.proto_fields.proofs.VarintLemmas.{put_varint_is}
use Rattle.proto_fields.proofs.varints.varint_len.Goals as goal

pub returns-clause-len : goal.returns-clause-len
returns-clause-len c = c.number_len.ensures.len ∙ ap length (put_varint_is c.args.n)
