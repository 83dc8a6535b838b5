use Rattle.split_tree.proofs.Joins.{children_join}
use Rattle.split_tree.proofs.laws.children_join.Goals as goal

pub returns : goal.returns
returns g c = children_join
