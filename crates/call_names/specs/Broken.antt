-- Why a message gave nothing: its own fault, or want of memory.
use Rattle.write_msgs.specs.declared.faults.MsgFault.{MsgFault}
use Rattle.write_msgs.specs.declared.faults.MsgFault.TheVariants as fault

-- the message is at fault, and no memory was wanting
abbrev pub IsBroken : MsgFault → Type 0
IsBroken fault.Memory = ⊥
IsBroken _ = Unit {0}
