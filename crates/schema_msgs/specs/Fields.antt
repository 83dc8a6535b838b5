-- The fields of a schema, as a list: each has the list of the fields within it.
use Rattle.std.specs.Prelude.{ℕ, ℤ, List}

-- No field; or a field by its name, its type, its mode and the fields within it, and then the others.
pub data Fields : Type 0 where
  NoFields : Fields
  Field : (name : List ℕ) → (column_type : ℤ) → (mode : ℤ) → (within : Fields) → (others : Fields) → Fields
