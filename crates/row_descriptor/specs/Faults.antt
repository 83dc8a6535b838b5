-- What was answered is what the definition gives, unless memory ran out.
use Rattle.std.specs.Prelude.{◌≡◌, Option, Some, None, Result, Ok, Err, List}
use Rattle.proto_fields.specs.declared.faults.FieldFault.{FieldFault}
use Rattle.proto_fields.specs.declared.faults.FieldFault.TheVariants as field
use Rattle.row_descriptor.specs.declared.faults.DescriptorFault.{DescriptorFault}
use Rattle.row_descriptor.specs.declared.faults.DescriptorFault.TheVariants as fault
use Rattle.row_descriptor.specs.declared.faults.BindFault.{BindFault}
use Rattle.row_descriptor.specs.declared.faults.BindFault.TheVariants as bind

-- bytes that are no message are no descriptor
abbrev pub fault_of : FieldFault → DescriptorFault
fault_of field.Memory = fault.Memory
fault_of (field.BadProto at) = fault.BadDescriptor

abbrev pub Refuses : {Y : Type 0} → DescriptorFault → Option Y → Type 0
Refuses fault.Memory read = Unit {0}
Refuses fault.BadDescriptor read = read ≡ None

abbrev pub Parses : {X Y : Type 0} → (X → Y) → Result X DescriptorFault → Option Y → Type 0
Parses view (Ok x) read = read ≡ Some (view x)
Parses view (Err e) read = Refuses e read

abbrev pub RefusesToBind : {Y : Type 0} → BindFault → Result Y BindFault → Type 0
RefusesToBind bind.Memory answer = Unit {0}
RefusesToBind (bind.ExtraField name) answer = answer ≡ Err (bind.ExtraField name)
RefusesToBind (bind.TypeMismatch name) answer = answer ≡ Err (bind.TypeMismatch name)
RefusesToBind (bind.MissingRequired name) answer = answer ≡ Err (bind.MissingRequired name)

abbrev pub Binds : {Y : Type 0} → Result Y BindFault → Result Y BindFault → Type 0
Binds (Ok binding) answer = answer ≡ Ok binding
Binds (Err e) answer = RefusesToBind e answer
