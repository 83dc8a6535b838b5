-- How the parts of a block are read: RFC 7541, sections 5.2 and 6. What is read comes with the
-- number of its bytes; nothing comes where the bytes don't begin with it.
use Rattle.std.specs.Prelude.{ℕ, zero, suc, ◌+◌, nat_lt, nat_le, List, length, take, drop, slice_index, Option, Some, None, option_and_then, option_map, if◌then◌else◌}
use Rattle.std.specs.Result.{result_ok}
use Rattle.hpack_codes.specs.Integers.{int_of}
use Rattle.hpack_codes.specs.Huffman.{huffman_of}
use Rattle.hpack_blocks.specs.declared.fields.Field.{Field}
use Rattle.hpack_blocks.specs.Table.{Table, entry_at, added, resized}

infixl 10 ◌>>=◌
abbrev pub ◌>>=◌ : {A B : Type 0} → Option A → (A → Option B) → Option B
o >>= f = option_and_then f o

-- an integer, section 5.1
abbrev pub number_at : ℕ → List ℕ → Option (ℕ × ℕ)
number_at prefix bytes = result_ok (int_of prefix bytes)

-- the octets of a string: as they stand, or in the Huffman code
abbrev pub octets_of : ℕ → List ℕ → Option (List ℕ)
octets_of first payload = if nat_lt first 128 then Some payload else result_ok (huffman_of payload)

-- a string, section 5.2: a bit that says whether it is in the Huffman code, its length, its octets
unfoldable pub string_at : List ℕ → Option (List ℕ × ℕ)
string_at bytes = do
  len ← number_at 7 bytes
  octets ← (if nat_lt (length (drop len.1 bytes)) len.0 then None else octets_of (slice_index bytes 0) (take len.0 (drop len.1 bytes)))
  Some (octets, len.1 + len.0)

-- the name of a literal: that of an entry, or for index 0 a string
unfoldable pub name_at : List Field → ℕ → List ℕ → Option (List ℕ × ℕ)
name_at entries zero bytes = string_at bytes
name_at entries (suc i) bytes = option_map (λ f. (f.name, 0)) (entry_at entries (suc i))

-- a literal field, section 6.2
unfoldable pub literal_at : List Field → ℕ → List ℕ → Option (Field × ℕ)
literal_at entries prefix bytes = do
  index ← number_at prefix bytes
  name ← name_at entries index.0 (drop index.1 bytes)
  value ← string_at (drop (index.1 + name.1) bytes)
  Some (record { name = name.0; value = value.0 }, index.1 + name.1 + value.1)

-- an indexed field, section 6.1
unfoldable pub indexed_at : List Field → List ℕ → Option (Field × ℕ)
indexed_at entries bytes = do
  index ← number_at 7 bytes
  field ← entry_at entries index.0
  Some (field, index.1)

-- a field and the table behind it: indexed (1), a literal with indexing (01), a literal without
-- indexing (0000) or never indexed (0001); a size update (001) is none
unfoldable pub field_at : Table → List ℕ → Option (Field × Table × ℕ)
field_at t bytes =
    if nat_le 128 (slice_index bytes 0) then option_map (λ x. (x.0, t, x.1)) (indexed_at t.entries bytes)
    else (if nat_le 64 (slice_index bytes 0) then option_map (λ x. (x.0, added t x.0, x.1)) (literal_at t.entries 6 bytes)
    else (if nat_le 32 (slice_index bytes 0) then None
    else option_map (λ x. (x.0, t, x.1)) (literal_at t.entries 4 bytes)))

-- a size update, section 6.3: to at most 4,096
unfoldable pub update_at : Table → List ℕ → Option (Table × ℕ)
update_at t bytes = do
  max ← number_at 5 bytes
  if nat_le max.0 4096 then Some (resized t max.0, max.1) else None
