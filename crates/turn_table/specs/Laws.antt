-- Laws of legal histories.
use Rattle.std.specs.Prelude.{ℕ, ℤ, ◌≤ℤ◌, Option, List, ◌++◌, Result}
use Rattle.outside.specs.declared.wants.Memory.{Memory}
use Rattle.turn_table.specs.declared.machine.TheConstants.{LATEST_READING}
use Rattle.turn_table.specs.Turn.{Steps, IsLegal}

-- a step from a legal history leads to a legal one
abbrev pub StepsStayLegal : {E C R : Type 0} → (E → ℕ) → (C → Type 0) → (List E → ℕ → C → ℤ → R → Option E → Type 0) → Type 0
StepsStayLegal {E} {C} {R} caller_of takes allows =
    (old new : List E) (caller : ℕ) (command : C) (now : ℤ) (result : Result R Memory)
    → IsLegal takes allows old → takes command → now ≤ℤ LATEST_READING
    → Steps caller_of allows old new caller command now result → IsLegal takes allows new

-- what a legal history began with is legal
abbrev pub FrontsAreLegal : {E C R : Type 0} → (C → Type 0) → (List E → ℕ → C → ℤ → R → Option E → Type 0) → Type 0
FrontsAreLegal {E} takes allows = (front more : List E) → IsLegal takes allows (front ++ more) → IsLegal takes allows front
