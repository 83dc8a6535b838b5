-- How fields nest: nothing is said of a bound on their depth.
use Rattle.std.specs.Prelude.{◌≡◌, ℕ, List}
use Rattle.std.specs.List.{AllByRecursion}
use Rattle.schema_msgs.specs.Fields.{Fields}
use Rattle.schema_msgs.specs.Outline.{IsOutline, outline}
use Rattle.schema_msgs.specs.Schema.{field_by, table_field_schema_of}
use Rattle.schema_msgs.specs.declared.nested_fields.NestedField.{NestedField}

-- a field is read as field_by says, and those within it in the same way
abbrev pub FieldsNest : Type 0
FieldsNest = (bytes : List ℕ) → table_field_schema_of bytes ≡ field_by table_field_schema_of bytes

-- each list of fields has its own outline
abbrev pub OutlinesTellFields : Type 0
OutlinesTellFields = (fs gs : Fields) → outline 0 fs ≡ outline 0 gs → fs ≡ gs

-- and each outline is that of a list of fields
abbrev pub OutlinesAreFields : Type 0
OutlinesAreFields = (fs : List NestedField) → IsOutline fs → (gs : Fields) × (outline 0 gs ≡ fs)

-- columns alone are an outline
abbrev pub ColumnsAreOutline : Type 0
ColumnsAreOutline = (fs : List NestedField) → AllByRecursion (λ f. f.depth ≡ 0) fs → IsOutline fs
