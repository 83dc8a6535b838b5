use Rattle.split_tree.proofs.CutLemmas.{cut_follows}
use Rattle.split_tree.proofs.laws.cuts_part.Goals as goal

pub returns : goal.returns
returns c = cut_follows
