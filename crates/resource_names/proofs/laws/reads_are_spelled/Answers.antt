use Rattle.resource_names.proofs.ReadLemmas.{read_spelled, read_read, place_spelled, place_read}
use Rattle.resource_names.proofs.laws.reads_are_spelled.Goals as goal

pub returns : goal.returns
returns c = record {
  names = λ text name. (read_spelled text name, read_read text name);
  places = λ name place. (place_spelled name place, place_read name place);
}
