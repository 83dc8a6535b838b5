-- What a message says of one of its fields: the Protocol Buffers encoding guide.
use Rattle.std.specs.Prelude.{ℕ, ℤ, ◌%◌, ◌^◌, List, [], Result, Ok, Err, Option, Some, None, is_some, unwrap_or, if◌then◌else◌}
use Rattle.std.specs.Int.{w32, w64, cast_signed}
use Rattle.std.specs.Str.{is_utf8}
use Rattle.proto_fields.specs.Record.{Record}
use Rattle.proto_fields.specs.Message.{fields_of}
use Rattle.proto_fields.specs.Selection.{last_of, merged_of, payloads_of, varints_of}
use Rattle.write_msgs.specs.declared.faults.MsgFault.{MsgFault}
use Rattle.write_msgs.specs.declared.faults.MsgFault.TheVariants as fault
use Rattle.write_msgs.specs.Faults.{at_place, last_place}

-- Readings in a row: one that fails ends all.
infixl 10 ◌>>=◌
abbrev pub ◌>>=◌ : {A B : Type 0} → Result A MsgFault → (A → Result B MsgFault) → Result B MsgFault
(Ok x) >>= f = f x
(Err e) >>= f = Err e

abbrev pub refused_at : {A : Type 0} → Result A ℕ → Result A MsgFault
refused_at (Ok x) = Ok x
refused_at (Err at) = Err (fault.BadProto at)

-- the fields of a message
abbrev pub records_of : List ℕ → Result (List Record) MsgFault
records_of bytes = refused_at (fields_of bytes)

-- A text, the last of its field; it is empty where there is none.
abbrev pub text_from : ℕ → Option (List ℕ) → Result (List ℕ) MsgFault
text_from number None = Ok []
text_from number (Some bytes) = if is_utf8 bytes then Ok bytes else Err (fault.BadUtf8 number)

abbrev pub text_in : ℕ → List Record → Result (List ℕ) MsgFault
text_in number records = text_from number (last_of (payloads_of number records))

-- An int64 is the last number of its field as signed, an int32 the low 32 bits of it; 0 where there is none.
abbrev pub int64_in : ℕ → List Record → ℤ
int64_in number records = cast_signed w64 (unwrap_or (last_of (varints_of number records)) 0)

abbrev pub int32_in : ℕ → List Record → ℤ
int32_in number records = cast_signed w32 (unwrap_or (last_of (varints_of number records)) 0 % 2 ^ 32)

-- A field that is not served may not be there.
abbrev pub without : ℕ → List Record → Result (Unit {0}) MsgFault
without number records = if is_some (last_of (payloads_of number records)) then Err (fault.Unsupported number) else Ok tt

-- A message within the message: all its occurrences joined, where there is one. A fault in it stands at the last tag.
abbrev pub present_at : {X : Type 0} → ℕ → Result X MsgFault → Result (Option X) MsgFault
present_at place (Ok x) = Ok (Some x)
present_at place (Err e) = Err (at_place place e)

abbrev pub nested_from : {X : Type 0} → (List ℕ → Result X MsgFault) → ℕ → Option (List ℕ) → Result (Option X) MsgFault
nested_from read place None = Ok None
nested_from read place (Some bytes) = present_at place (read bytes)

abbrev pub nested : {X : Type 0} → (List ℕ → Result X MsgFault) → ℕ → List ℕ → List Record → Result (Option X) MsgFault
nested read number bytes records = nested_from read (last_place number bytes) (merged_of (payloads_of number records))
