use Rattle.split_tree.proofs.Joins.{cuts_join}
use Rattle.split_tree.proofs.laws.cuts_join.Goals as goal

pub returns : goal.returns
returns g c = cuts_join
