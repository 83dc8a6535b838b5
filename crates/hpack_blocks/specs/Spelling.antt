-- How the server spells a block: a field that equals a static entry as its index; another as a literal
-- without indexing, with the least static index of its name where there is one, and strings as they
-- stand. The first block of a connection sets the dynamic table to 0 before.
use Rattle.std.specs.Prelude.{◌≡◌, ℕ, ◌+◌, ◌^◌, ◌<◌, ◌&&◌, Bool, List, [], ◌∷◌, ◌++◌, length, Option, Some, None, if◌then◌else◌}
use Rattle.std.specs.List.{flat_map, position_from}
use Rattle.std.specs.Str.{bytes_eq}
use Rattle.hpack_codes.specs.Integers.{int_spelling}
use Rattle.hpack_blocks.specs.Static.{static_table}
use Rattle.hpack_blocks.specs.declared.fields.Field.{Field}
use Rattle.hpack_blocks.specs.Table.{Table, resized}
use Rattle.hpack_blocks.specs.Block.{block_of}

-- the place in the static table, from 0, of a field and of a name
unfoldable pub place_of_field : Field → Option ℕ
place_of_field f = position_from (λ e. bytes_eq e.name f.name && bytes_eq e.value f.value) 0 static_table

unfoldable pub place_of_name : List ℕ → Option ℕ
place_of_name name = position_from (λ e. bytes_eq e.name name) 0 static_table

-- a string as it stands
unfoldable pub string_spelling : List ℕ → List ℕ
string_spelling octets = int_spelling 0 7 (length octets) ++ octets

-- a literal without indexing
unfoldable pub literal_spelling : Option ℕ → Field → List ℕ
literal_spelling (Some place) f = int_spelling 0 4 (place + 1) ++ string_spelling f.value
literal_spelling None f = int_spelling 0 4 0 ++ string_spelling f.name ++ string_spelling f.value

unfoldable pub spelling_at : Option ℕ → Field → List ℕ
spelling_at (Some place) f = int_spelling 128 7 (place + 1)
spelling_at None f = literal_spelling (place_of_name f.name) f

unfoldable pub field_spelling : Field → List ℕ
field_spelling f = spelling_at (place_of_field f) f

abbrev pub block_spelling : Bool → List Field → List ℕ
block_spelling first fields = (if first then 32 ∷ [] else []) ++ flat_map field_spelling fields

-- what has a spelling
pub record Fits (f : Field) : Type 0 where
  pub name : length f.name < 2 ^ 32
  pub value : length f.value < 2 ^ 32

-- the block reads as these fields, whatever the table of the other side is
abbrev pub BlockReadsBack : Bool → List Field → List ℕ → Type 0
BlockReadsBack first fields block = (t : Table) → block_of t block ≡ Some (fields, if first then resized t 0 else t)
