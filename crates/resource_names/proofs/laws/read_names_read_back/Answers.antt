use Rattle.resource_names.proofs.ReadLemmas.{node_read}
use Rattle.resource_names.proofs.laws.read_names_read_back.Goals as goal

pub returns : goal.returns
returns c = node_read
