use Rattle.split_tree.proofs.CutLemmas.{moves_are_cuts}
use Rattle.split_tree.proofs.laws.moves_cut.Goals as goal

pub returns : goal.returns
returns c = moves_are_cuts
