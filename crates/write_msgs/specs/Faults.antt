-- Why a message could not be read, and which of several faults counts.
use Rattle.std.specs.Prelude.{◌≡◌, ℕ, min, List, [], Result, Ok, Err, unwrap_or}
use Rattle.proto_fields.specs.declared.faults.FieldFault.{FieldFault}
use Rattle.proto_fields.specs.declared.faults.FieldFault.TheVariants as field
use Rattle.proto_fields.specs.Message.{Placed, placed_of}
use Rattle.proto_fields.specs.Selection.{last_of, tags_of}
use Rattle.write_msgs.specs.declared.faults.MsgFault.{MsgFault}
use Rattle.write_msgs.specs.declared.faults.MsgFault.TheVariants as fault

abbrev pub message_fault : FieldFault → MsgFault
message_fault field.Memory = fault.Memory
message_fault (field.BadProto at) = fault.BadProto at

-- Of two faults the one that stands first in this order: want of memory, bytes that are no message at the least place,
-- a field that is not served with the least number, a text that is not UTF-8 with the least number.
abbrev pub least : MsgFault → MsgFault → MsgFault
least fault.Memory b = fault.Memory
least a fault.Memory = fault.Memory
least (fault.BadProto x) (fault.BadProto y) = fault.BadProto (min x y)
least (fault.BadProto x) b = fault.BadProto x
least a (fault.BadProto y) = fault.BadProto y
least (fault.Unsupported x) (fault.Unsupported y) = fault.Unsupported (min x y)
least (fault.Unsupported x) (fault.BadUtf8 y) = fault.Unsupported x
least (fault.BadUtf8 x) (fault.Unsupported y) = fault.Unsupported y
least (fault.BadUtf8 x) (fault.BadUtf8 y) = fault.BadUtf8 (min x y)

-- two parts of a message: both, or the fault that counts
abbrev pub both : {A B : Type 0} → Result A MsgFault → Result B MsgFault → Result (A × B) MsgFault
both (Ok a) (Ok b) = Ok (a, b)
both (Ok a) (Err e) = Err e
both (Err d) (Ok b) = Err d
both (Err d) (Err e) = Err (least d e)

abbrev pub records_or_none : Result (List Placed) ℕ → List Placed
records_or_none (Ok placed) = placed
records_or_none (Err at) = []

-- the place of the last tag of this number, of those with wire type 2
abbrev pub last_place : ℕ → List ℕ → ℕ
last_place number bytes = unwrap_or (last_of (tags_of number (records_or_none (placed_of bytes)))) 0

-- A fault of a message within the message: bytes that are no message are reported at this place, the tag of its field;
-- the numbers of other faults stay.
abbrev pub at_place : ℕ → MsgFault → MsgFault
at_place place fault.Memory = fault.Memory
at_place place (fault.BadProto at) = fault.BadProto place
at_place place (fault.Unsupported number) = fault.Unsupported number
at_place place (fault.BadUtf8 number) = fault.BadUtf8 number

-- what was read is what the definition gives, unless memory was wanting
abbrev pub ReadsAs : {X : Type 0} → Result X MsgFault → Result X MsgFault → Type 0
ReadsAs (Ok x) read = read ≡ Ok x
ReadsAs (Err fault.Memory) read = Unit {0}
ReadsAs (Err (fault.BadProto at)) read = read ≡ Err (fault.BadProto at)
ReadsAs (Err (fault.Unsupported number)) read = read ≡ Err (fault.Unsupported number)
ReadsAs (Err (fault.BadUtf8 number)) read = read ≡ Err (fault.BadUtf8 number)
