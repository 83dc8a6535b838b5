use Rattle.grpc_meta.proofs.LengthLemmas.{trailers_short}
use Rattle.grpc_meta.proofs.laws.trailers_are_short.Goals as goal

pub returns : goal.returns
returns c = trailers_short
