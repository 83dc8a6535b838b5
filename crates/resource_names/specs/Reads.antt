-- What reading a text gives, where the text is this name or none.
use Rattle.std.specs.Prelude.{◌≡◌, Option, Some, None, Result, Ok, Err}
use Rattle.resource_names.specs.declared.faults.NameFault.{NameFault}
use Rattle.resource_names.specs.declared.faults.NameFault.TheVariants as fault

-- the name, or that there is none, unless memory was wanting
abbrev pub Reads : {X : Type 0} → Option X → Result X NameFault → Type 0
Reads name (Ok x) = name ≡ Some x
Reads name (Err fault.BadName) = name ≡ None
Reads name (Err fault.Memory) = Unit {0}
