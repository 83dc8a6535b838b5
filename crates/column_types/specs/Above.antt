-- A predicate under the nodes that stand above it, each without its left side. The last is the nearest.
use Rattle.std.specs.Prelude.{List, [], ◌∷◌}
use Rattle.column_types.specs.declared.predicate.Pred.{Pred, And, Or, Not}
use Rattle.column_types.specs.declared.predicate.Above.{Above}
use Rattle.column_types.specs.declared.predicate.Above.TheVariants as above

abbrev pub under_one : Above → Pred → Pred
under_one (above.And right) left = And left right
under_one (above.Or right) left = Or left right
under_one above.Not inner = Not inner

abbrev pub under : List Above → Pred → Pred
under [] leaf = leaf
under (node ∷ more) leaf = under_one node (under more leaf)
