use Rattle.proto_fields.proofs.VarintLemmas.{length-varint_of-shortest}
use Rattle.proto_fields.proofs.laws.varints_are_shortest.Goals as goal

pub returns : goal.returns
returns c = length-varint_of-shortest
