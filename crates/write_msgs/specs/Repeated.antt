-- A repeated message within a message: each occurrence of its field is read by itself.
use Rattle.std.specs.Prelude.{ℕ, ◌+◌, List, [], ◌∷◌, ◌++◌, Result, Ok, Err, unwrap_or, slice_get}
use Rattle.std.specs.Global.{Vec}
use Rattle.proto_fields.specs.Record.{Record}
use Rattle.proto_fields.specs.Message.{placed_of}
use Rattle.proto_fields.specs.Selection.{payloads_of, tags_of}
use Rattle.write_msgs.specs.declared.faults.MsgFault.{MsgFault}
use Rattle.write_msgs.specs.declared.faults.MsgFault.TheVariants as fault
use Rattle.write_msgs.specs.Faults.{at_place, both, records_or_none}

-- what was read, with its fault at this place
abbrev pub located : {X : Type 0} → ℕ → Result X MsgFault → Result X MsgFault
located place (Ok x) = Ok x
located place (Err e) = Err (at_place place e)

abbrev pub joined : {X : Type 0} → Result (X × List X) MsgFault → Result (List X) MsgFault
joined (Ok x) = Ok (x.0 ∷ x.1)
joined (Err e) = Err e

-- The messages of these occurrences, of which the first is the nth of its field, or the fault that counts. Here an
-- occurrence that is no message is named by its number, so that the first of them counts.
unfoldable pub items_from : {X : Type 0} → (List ℕ → Result X MsgFault) → ℕ → List (List ℕ) → Result (List X) MsgFault
items_from read n [] = Ok []
items_from read n (bytes ∷ others) = joined (both (located n (read bytes)) (items_from read (n + 1) others))

-- the place of the tag of the nth occurrence of this field, of those with wire type 2
abbrev pub nth_place : ℕ → List ℕ → ℕ → ℕ
nth_place number bytes n = unwrap_or (slice_get (tags_of number (records_or_none (placed_of bytes))) n) 0

-- an occurrence that is no message is reported at its own tag
abbrev pub at_nth : ℕ → List ℕ → MsgFault → MsgFault
at_nth number bytes fault.Memory = fault.Memory
at_nth number bytes (fault.BadProto n) = fault.BadProto (nth_place number bytes n)
at_nth number bytes (fault.Unsupported field) = fault.Unsupported field
at_nth number bytes (fault.BadUtf8 field) = fault.BadUtf8 field

abbrev pub placed_items : {X : Type 0} → ℕ → List ℕ → Result (List X) MsgFault → Result (List X) MsgFault
placed_items number bytes (Ok items) = Ok items
placed_items number bytes (Err e) = Err (at_nth number bytes e)

-- The messages of a repeated field, in order.
abbrev pub repeated : {X : Type 0} → (List ℕ → Result X MsgFault) → ℕ → List ℕ → List Record → Result (List X) MsgFault
repeated read number bytes records = placed_items number bytes (items_from read 0 (payloads_of number records))

-- what a vector that was read holds
abbrev pub listed : {X : Type 0} → Result (Vec X) MsgFault → Result (List X) MsgFault
listed (Ok items) = Ok items.items
listed (Err e) = Err e

-- the items so far and one more
abbrev pub with_last : {X : Type 0} → Result (List X × X) MsgFault → Result (List X) MsgFault
with_last (Ok x) = Ok (x.0 ++ x.1 ∷ [])
with_last (Err e) = Err e
