use Rattle.split_tree.proofs.OneLeaves.{leaves_are_one}
use Rattle.split_tree.proofs.laws.leaves_are_one.Goals as goal

pub returns : goal.returns
returns c = leaves_are_one
