use Rattle.split_tree.specs.Intervals.{roots_of}
use Rattle.split_tree.proofs.Roots.{IsSplitTree-roots, some_roots, few_roots, roots_again}
use Rattle.split_tree.proofs.Later.{splits_keep}
use Rattle.split_tree.proofs.laws.trees_are_halved.Goals as goal

pub returns : goal.returns
returns c = record {
  again = roots_again;
  roots = λ at count. IsSplitTree-roots at (roots_of at count) (some_roots at count) (few_roots at count);
  splits = splits_keep;
}
