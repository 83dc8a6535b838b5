-- Messages that wait to be read: the fields within a field wait until it is read.
use Rattle.std.specs.Prelude.{ℕ, ◌+◌, ◌≤◌, List, [], ◌∷◌, ◌++◌, length, map, reverse, sum_by, Result, Ok, Err}
use Rattle.proto_fields.specs.Record.{Record}
use Rattle.proto_fields.specs.Selection.{payloads_of}
use Rattle.write_msgs.specs.declared.faults.MsgFault.{MsgFault}
use Rattle.write_msgs.specs.Faults.{both}
use Rattle.write_msgs.specs.Reading.{◌>>=◌, records_of, text_in, int32_in}
use Rattle.write_msgs.specs.Repeated.{located}
use Rattle.schema_msgs.specs.declared.nested_fields.NestedField.{NestedField}
use Rattle.schema_msgs.specs.declared.walks.Waiting.{Waiting}
use Rattle.schema_msgs.specs.declared.schemas.TableFieldSchema.{TableFieldSchema}
use Rattle.schema_msgs.specs.declared.numbers.TheConstants.{FIELD_NAME, COLUMN_TYPE, MODE, FIELDS}
use Rattle.schema_msgs.specs.Outline.{outline}
use Rattle.schema_msgs.specs.Schema.{gathered}

-- a TableFieldSchema that lies so deep
pub record Message : Type 0 where
  pub depth : ℕ
  pub bytes : List ℕ

abbrev pub message_in : Waiting → Message
message_in w = record { depth = w.depth; bytes = w.message.now }

-- what waits, in the order of reading: the last is read first
abbrev pub order : List Waiting → List Message
order waiting = reverse (map message_in waiting)

-- a field without those within it
abbrev pub own_in : ℕ → List Record → Result NestedField MsgFault
own_in depth records =
    text_in FIELD_NAME records >>= λ name. Ok (record { depth = depth; name = name; column_type = int32_in COLUMN_TYPE records; mode = int32_in MODE records })

-- the place of a fault is left out here, since it is told by the outermost message
abbrev pub own_of : Message → Result NestedField MsgFault
own_of m = located 0 (records_of m.bytes) >>= own_in m.depth

abbrev pub inside : ℕ → List ℕ → Message
inside depth bytes = record { depth = depth; bytes = bytes }

abbrev pub within_read : ℕ → Result (List Record) MsgFault → List Message
within_read depth (Ok records) = map (inside depth) (payloads_of FIELDS records)
within_read depth (Err e) = []

-- the messages within it
abbrev pub within_of : Message → List Message
within_of m = within_read (m.depth + 1) (records_of m.bytes)

-- what is still to be read: each message has its tag
abbrev pub work : List Message → ℕ
work messages = sum_by (λ m. length m.bytes + 1) messages

-- A message of so many bytes has none within it that lies deeper than this.
abbrev pub LiesIn : ℕ → Message → Type 0
LiesIn size m = m.depth + length m.bytes ≤ size

-- a message that was read, and those within it, as an outline
abbrev pub laid_one : ℕ → TableFieldSchema → List NestedField
laid_one depth f = record { depth = depth; name = f.name; column_type = f.column_type; mode = f.mode } ∷ outline (depth + 1) f.fields

abbrev pub laid : ℕ → Result TableFieldSchema MsgFault → Result (List NestedField) MsgFault
laid depth (Ok f) = Ok (laid_one depth f)
laid depth (Err e) = Err e

abbrev pub laid_all : ℕ → Result (List TableFieldSchema) MsgFault → Result (List NestedField) MsgFault
laid_all depth (Ok fs) = Ok (outline depth (gathered fs))
laid_all depth (Err e) = Err e

abbrev pub joined_lists : Result (List NestedField × List NestedField) MsgFault → Result (List NestedField) MsgFault
joined_lists (Ok x) = Ok (x.0 ++ x.1)
joined_lists (Err e) = Err e

-- what was read, and what was read behind it
abbrev pub followed : Result (List NestedField) MsgFault → Result (List NestedField) MsgFault → Result (List NestedField) MsgFault
followed a b = joined_lists (both a b)
