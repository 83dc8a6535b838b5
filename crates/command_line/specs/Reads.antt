-- What a reader answers: a value of which something holds, or Usage exactly where it holds of none.
use Rattle.std.specs.Prelude.{Result, Ok, Err}
use Rattle.table_spec.specs.declared.spec.SpecFault.{SpecFault}
use Rattle.table_spec.specs.declared.spec.SpecFault.TheVariants as spec_fault
use Rattle.command_line.specs.declared.line.LineFault.{LineFault}
use Rattle.command_line.specs.declared.line.LineFault.TheVariants as fault

-- want of memory may come in place of either
abbrev pub Reads : {X V : Type 0} → (X → V) → (V → Type 0) → Result X LineFault → Type 0
Reads view Holds (Ok x) = Holds (view x)
Reads {V = V} view Holds (Err fault.Usage) = (v : V) → Holds v → ⊥
Reads view Holds (Err fault.Memory) = Unit {0}

abbrev pub fault_from : SpecFault → LineFault
fault_from spec_fault.Memory = fault.Memory
fault_from spec_fault.NoSpec = fault.Usage
