-- Fields one behind another, each in front of the fields within it, which are one deeper: as in the outline of a book.
use Rattle.std.specs.Prelude.{ℕ, ◌+◌, ◌≤◌, List, [], ◌∷◌, ◌++◌, nat_lt, if◌then◌else◌}
use Rattle.schema_msgs.specs.declared.nested_fields.NestedField.{NestedField}
use Rattle.schema_msgs.specs.Fields.{Fields, NoFields, Field}

-- these fields, which lie so deep
unfoldable pub outline : ℕ → Fields → List NestedField
outline depth NoFields = []
outline depth (Field name column_type mode within others) =
    record { depth = depth; name = name; column_type = column_type; mode = mode } ∷ (outline (depth + 1) within ++ outline depth others)

-- No field is more than one deeper than the one before it, and the first is no deeper than this.
unfoldable pub Nests : ℕ → List NestedField → Type 0
Nests most [] = Unit {0}
Nests most (f ∷ fs) = (f.depth ≤ most) × Nests (f.depth + 1) fs

abbrev pub IsOutline : List NestedField → Type 0
IsOutline fs = Nests 0 fs

-- The fields that lie so deep, up to the first that lies less deep. Those that lie deeper are passed over.
unfoldable pub fields_at : ℕ → List NestedField → Fields
fields_at depth [] = NoFields
fields_at depth (f ∷ fs) =
    if nat_lt f.depth depth then NoFields
    else (if nat_lt depth f.depth then fields_at depth fs else Field f.name f.column_type f.mode (fields_at (depth + 1) fs) (fields_at depth fs))
