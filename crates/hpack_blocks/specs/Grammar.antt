-- The grammar of header blocks, production by production: RFC 7541, sections 3, 5.2 and 6. Each
-- production relates octets to what they spell, beside the dynamic table before them and after them.
use Rattle.std.specs.Prelude.{◌≡◌, ℕ, ◌<◌, ◌≤◌, List, [], ◌∷◌, ◌++◌, length, slice_index, Some, Ok}
use Rattle.hpack_codes.specs.Integers.{int_of}
use Rattle.hpack_codes.specs.Huffman.{IsHuffman}
use Rattle.hpack_blocks.specs.declared.fields.Field.{Field}
use Rattle.hpack_blocks.specs.Table.{Table, entry_at, added, resized}

-- each is an octet
abbrev pub AreOctets : List ℕ → Type 0
AreOctets octets = (i : ℕ) → slice_index octets i < 256

-- an integer with a prefix of so many bits, section 5.1, and the range of its first octet, which says
-- what the bits before the prefix are
pub record IsInteger (prefix from below : ℕ) (octets : List ℕ) (v : ℕ) : Type 0 where
  pub first_from : from ≤ slice_index octets 0
  pub first_below : slice_index octets 0 < below
  pub whole : int_of prefix octets ≡ Ok (v, length octets)

-- a string, section 5.2: a bit that says whether it is in the Huffman code, a length, and so many
-- octets, which are the string or its code
pub data IsString (octets text : List ℕ) : Type 0 where
  Plain : (head : List ℕ) → octets ≡ head ++ text → IsInteger 7 0 128 head (length text) → IsString octets text
  Coded : (head code : List ℕ) → octets ≡ head ++ code → IsInteger 7 128 256 head (length code) → IsHuffman code text → IsString octets text

-- the name of a literal: that of an entry, with no octets of its own, or for index 0 a string
pub data IsName (entries : List Field) (index : ℕ) (octets name : List ℕ) : Type 0 where
  OfEntry : (f : Field) → entry_at entries index ≡ Some f → octets ≡ [] → name ≡ f.name → IsName entries index octets name
  New : index ≡ 0 → IsString octets name → IsName entries index octets name

-- a literal, section 6.2: an index, a name and a value
pub record IsLiteral (entries : List Field) (prefix from below : ℕ) (octets : List ℕ) (f : Field) : Type 0 where
  pub index : ℕ
  pub head : List ℕ
  pub name : List ℕ
  pub value : List ℕ
  pub joined : octets ≡ head ++ (name ++ value)
  pub is_index : IsInteger prefix from below head index
  pub is_name : IsName entries index name f.name
  pub is_value : IsString value f.value

-- a representation of a field, section 6, and the table after it
pub data IsRepresentation (t : Table) (octets : List ℕ) (f : Field) (after : Table) : Type 0 where
  -- 1.......
  Indexed : (index : ℕ) → IsInteger 7 128 256 octets index → entry_at t.entries index ≡ Some f → after ≡ t → IsRepresentation t octets f after
  -- 01......
  WithIndexing : IsLiteral t.entries 6 64 128 octets f → after ≡ added t f → IsRepresentation t octets f after
  -- 0000....
  WithoutIndexing : IsLiteral t.entries 4 0 16 octets f → after ≡ t → IsRepresentation t octets f after
  -- 0001....
  NeverIndexed : IsLiteral t.entries 4 16 32 octets f → after ≡ t → IsRepresentation t octets f after

-- representations, one behind the other
pub data AreFields : Table → List ℕ → List Field → Table → Type 0 where
  NoMore : (t : Table) → AreFields t [] [] t
  More : (t between after : Table) (front rest : List ℕ) (f : Field) (fields : List Field)
      → IsRepresentation t front f between → AreFields between rest fields after → AreFields t (front ++ rest) (f ∷ fields) after

-- a block, sections 3 and 4.2: size updates, `001.....`, to at most 4,096 each, and then fields
pub data IsBlock : Table → List ℕ → List Field → Table → Type 0 where
  Fields : (t after : Table) (octets : List ℕ) (fields : List Field) → AreFields t octets fields after → IsBlock t octets fields after
  Update : (t after : Table) (front rest : List ℕ) (max : ℕ) (fields : List Field)
      → IsInteger 5 32 64 front max → max ≤ 4096 → IsBlock (resized t max) rest fields after → IsBlock t (front ++ rest) fields after
