use Rattle.std.proofs.Common.{◌≡◌, ◌++◌, drop, option_map}
use Rattle.filter.specs.Literal.{cells_of}
use Rattle.filter.proofs.literal.cells_of.Given as goal

-- the values so far and those of what is left are those of all
abbrev pub invariant-loop-literal : goal.invariant-loop-literal
invariant-loop-literal l =
    option_map (λ more. l.values.items ++ more) (cells_of l.kind (drop l.literal-index l.literals)) ≡ cells_of l.kind l.literals
