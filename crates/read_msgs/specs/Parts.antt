-- What a message says of one of its fields, beside what Storage Write messages say: its bytes, a data format that is
-- served, and that no sample is asked for.
use Rattle.std.specs.Prelude.{ℕ, ℤ, Bool, false, ◌==◌, List, [], Result, Ok, Err, unwrap_or, if◌then◌else◌}
use Rattle.std.specs.List.{list_any}
use Rattle.std.specs.Ordering.{int_eq}
use Rattle.proto_fields.specs.Record.{Payload, Varint, Fixed64, Len, Fixed32, Record}
use Rattle.proto_fields.specs.Selection.{last_of, payloads_of}
use Rattle.write_msgs.specs.declared.faults.MsgFault.{MsgFault}
use Rattle.write_msgs.specs.declared.faults.MsgFault.TheVariants as fault
use Rattle.write_msgs.specs.Reading.{int32_in}
use Rattle.read_msgs.specs.declared.numbers.TheConstants.{ARROW, DATA_FORMAT, SAMPLE_PERCENTAGE}

-- Bytes, the last of their field; there are none where the field isn't there.
abbrev pub blob_in : ℕ → List Record → List ℕ
blob_in number records = unwrap_or (last_of (payloads_of number records)) []

-- The data format, which may not be ARROW.
abbrev pub served_format : ℤ → Result ℤ MsgFault
served_format format = if int_eq format ARROW then Err (fault.Unsupported DATA_FORMAT) else Ok format

abbrev pub format_in : List Record → Result ℤ MsgFault
format_in records = served_format (int32_in DATA_FORMAT records)

-- A sampling percentage is a double, which has eight bytes.
abbrev pub samples : ℕ → Payload → Bool
samples number (Varint n) = false
samples number (Fixed64 n) = number == SAMPLE_PERCENTAGE
samples number (Len bytes) = false
samples number (Fixed32 n) = false

abbrev pub is_sample : Record → Bool
is_sample r = samples r.number r.payload

abbrev pub unsampled : List Record → Result (Unit {0}) MsgFault
unsampled records = if list_any is_sample records then Err (fault.Unsupported SAMPLE_PERCENTAGE) else Ok tt
