-- The dynamic table: RFC 7541, sections 2.3.2 and 4.
use Rattle.std.specs.Prelude.{ℕ, zero, suc, ◌+◌, ◌-◌, nat_lt, nat_le, List, [], ◌∷◌, length, slice_get, Option, None, if◌then◌else◌}
use Rattle.hpack_blocks.specs.Static.{static_table}
use Rattle.hpack_blocks.specs.declared.fields.Field.{Field}

-- the present maximum of its size, and its entries, the newest first
pub record Table : Type 0 where
  pub max : ℕ
  pub entries : List Field

-- what a field counts: its octets and 32
abbrev pub size_of : Field → ℕ
size_of f = length f.name + length f.value + 32

unfoldable pub list_size : List Field → ℕ
list_size [] = 0
list_size (f ∷ fields) = size_of f + list_size fields

-- the newest entries that have room
unfoldable pub newest : ℕ → List Field → List Field
newest room [] = []
newest room (f ∷ entries) = if nat_le (size_of f) room then f ∷ newest (room - size_of f) entries else []

-- another maximum: the oldest are dropped until the rest fits
abbrev pub resized : Table → ℕ → Table
resized t max = record { max = max; entries = newest max t.entries }

-- one more entry: the oldest are dropped until all fit; one that is larger than the maximum empties
-- the table
abbrev pub added : Table → Field → Table
added t f = record { max = t.max; entries = newest t.max (f ∷ t.entries) }

-- the entry of an index: 1 to 61 are the static table's, the next is the newest of the dynamic table
unfoldable pub entry_at : List Field → ℕ → Option Field
entry_at entries zero = None
entry_at entries (suc i) = if nat_lt i 61 then slice_get static_table i else slice_get entries (i - 61)
