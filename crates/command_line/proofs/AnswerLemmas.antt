-- An answer that a reader passes on.
use Rattle.std.proofs.Common.{Err}
use Rattle.command_line.specs.declared.line.LineFault.{LineFault}
use Rattle.command_line.specs.declared.line.LineFault.TheVariants as fault
use Rattle.command_line.specs.Reads.{Reads}

-- where a part can't be read, nothing that has such a part can be
pub passed_on : {X V Y W : Type 0} (view : X → V) (Holds : V → Type 0) (f : Y → W) (HoldsAll : W → Type 0) (e : LineFault)
    → Reads view Holds (Err e) → ((w : W) → HoldsAll w → (v : V) × Holds v) → Reads f HoldsAll (Err e)
passed_on view Holds f HoldsAll fault.Memory refused part = tt
passed_on view Holds f HoldsAll fault.Usage refused part = λ w holds. refused (part w holds).0 (part w holds).1
