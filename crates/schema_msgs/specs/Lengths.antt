-- How long the messages of fields are, and how they are written one behind another.
use Rattle.std.specs.Prelude.{◌≡◌, ℕ, zero, suc, ◌+◌, List, [], ◌∷◌, ◌++◌, length, slice_index_or}
use Rattle.proto_fields.specs.Record.{head_bytes}
use Rattle.proto_fields.specs.Message.{message_of}
use Rattle.schema_msgs.specs.declared.nested_fields.NestedField.{NestedField}
use Rattle.schema_msgs.specs.declared.numbers.TheConstants.{FIELDS}
use Rattle.schema_msgs.specs.Outline.{fields_at}
use Rattle.schema_msgs.specs.SchemaBytes.{own_records, field_records}

-- what a field's message says of the field itself
abbrev pub own_bytes : NestedField → List ℕ
own_bytes f = message_of (own_records f.name f.column_type f.mode)

-- the fields of a depth as they are written within the field in front of them
abbrev pub level_bytes : ℕ → List NestedField → List ℕ
level_bytes depth fs = message_of (field_records FIELDS (fields_at depth fs))

-- how long the message of a field is, of which those behind it are these
abbrev pub size_of : NestedField → List NestedField → ℕ
size_of f fs = length (own_bytes f) + length (level_bytes (f.depth + 1) fs)

unfoldable pub sizes_of : List NestedField → List ℕ
sizes_of [] = []
sizes_of (f ∷ fs) = size_of f fs ∷ sizes_of fs

-- of each depth, how long the fields of that depth are that come next
abbrev pub IsBelow : List ℕ → List NestedField → Type 0
IsBelow lengths fs = (depth : ℕ) → slice_index_or lengths depth 0 ≡ length (level_bytes depth fs)

-- the number of the field in which fields of a depth are written
abbrev pub number_at : ℕ → ℕ → ℕ
number_at number zero = number
number_at number (suc depth) = FIELDS

-- what is written of a field, given those behind it
abbrev pub head_of : ℕ → NestedField → List NestedField → List ℕ
head_of number f fs = head_bytes (number_at number f.depth) (size_of f fs) ++ own_bytes f
