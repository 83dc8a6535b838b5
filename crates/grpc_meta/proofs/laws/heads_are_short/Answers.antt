use Rattle.grpc_meta.proofs.LengthLemmas.{head_short, http_short}
use Rattle.grpc_meta.proofs.laws.heads_are_short.Goals as goal

pub returns : goal.returns
returns c = record { head = head_short; http = http_short }
