-- A message that can't be read, or want of memory.
use Rattle.proto_fields.specs.declared.faults.FieldFault.{FieldFault}
use Rattle.proto_fields.specs.declared.faults.FieldFault.TheVariants as field
use Rattle.program.specs.declared.requests.RequestFault.{RequestFault}
use Rattle.program.specs.declared.requests.RequestFault.TheVariants as fault

abbrev pub request_fault : FieldFault → RequestFault
request_fault field.Memory = fault.Memory
request_fault (field.BadProto at) = fault.Unreadable
