use Rattle.resource_names.proofs.WriteLemmas.{write_spelled, write_read}
use Rattle.resource_names.proofs.laws.writes_are_spelled.Goals as goal

pub returns : goal.returns
returns c text name = (write_spelled text name, write_read text name)
