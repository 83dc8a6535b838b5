use Rattle.split_tree.proofs.Later.{later_nodes_stay}
use Rattle.split_tree.proofs.laws.later_nodes_stay.Goals as goal

pub returns : goal.returns
returns g c = later_nodes_stay
