use Rattle.proto_fields.proofs.SizeLemmas.{payloads_are_shorter}
use Rattle.proto_fields.proofs.laws.payloads_are_shorter.Goals as goal

pub returns : goal.returns
returns c = payloads_are_shorter
