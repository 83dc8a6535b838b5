use Rattle.h2_answers.proofs.DueLemmas.{CanCarryData-parts, MayCarryData-one}
use Rattle.h2_answers.proofs.laws.data_goes_from_ten_bytes.Goals as goal

pub returns : goal.returns
returns c bounds id waiting = (CanCarryData-parts bounds id waiting, MayCarryData-one bounds id waiting)
