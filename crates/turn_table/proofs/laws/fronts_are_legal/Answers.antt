use Rattle.turn_table.proofs.LegalLemmas.{fronts}
use Rattle.turn_table.proofs.laws.fronts_are_legal.Goals as goal

pub returns : goal.returns
returns g c = λ fixed. fronts (g.M.Machine.takes fixed) (g.M.Machine.allows fixed)
