use Rattle.resource_names.proofs.WriteLemmas.{default_read, number_read}
use Rattle.resource_names.proofs.laws.write_names_read_back.Goals as goal

pub returns : goal.returns
returns c = record { default = default_read; number = number_read }
