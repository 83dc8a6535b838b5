-- The command that runs the drill.
use Rattle.std.specs.Prelude.{◌≡◌, ℕ, true, false, List, Option, Result, Ok, Err}
use Rattle.call_body.specs.Steps.{WritesAll}
use Rattle.table_model.specs.Table.{Table}
use Rattle.drill.specs.Summary.{Sums}
use Rattle.program.specs.declared.drills.DrillFault.{DrillFault}
use Rattle.program.specs.declared.drills.DrillFault.TheVariants as fault

-- the text of a drill, by the history of its closed table
pub record IsText (text : List ℕ) : Type 0 where
  pub table : Table
  pub session : ℕ
  pub repeats : ℕ
  pub sums : Sums table session repeats text

-- The text of a drill was written: all of it, or, where the output met a fault, the first bytes of one; then the count of
-- faults rose. At want of memory nothing was.
abbrev pub Drills : (before now : Option (List ℕ)) → (faults0 faults : ℕ) → Result (Unit {0}) DrillFault → Type 0
Drills before now faults0 faults (Ok done) = (text : List ℕ) × IsText text × WritesAll before now faults0 faults text true
Drills before now faults0 faults (Err fault.Outside) = (text : List ℕ) × IsText text × WritesAll before now faults0 faults text false
Drills before now faults0 faults (Err fault.Memory) = (now ≡ before) × (faults ≡ faults0)

-- the status of the program
abbrev pub status_of_drill : Result (Unit {0}) DrillFault → ℕ
status_of_drill (Ok done) = 0
status_of_drill (Err fault.Outside) = 3
status_of_drill (Err fault.Memory) = 4
