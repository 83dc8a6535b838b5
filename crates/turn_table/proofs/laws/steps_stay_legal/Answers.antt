use Rattle.turn_table.proofs.LegalLemmas.{steps}
use Rattle.turn_table.proofs.laws.steps_stay_legal.Goals as goal

pub returns : goal.returns
returns g c = λ fixed. steps (g.M.Machine.takes fixed) (g.M.Machine.allows fixed) g.M.Machine.caller_of
