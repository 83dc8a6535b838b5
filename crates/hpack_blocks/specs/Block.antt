-- How a header block is read: RFC 7541, sections 3 and 4.2. Size updates stand at its start, and fields
-- follow. The grammar itself is in Grammar; the two agree by the law `reads_the_grammar`.
use Rattle.std.specs.Prelude.{ℕ, zero, suc, ◌-◌, ◌&&◌, nat_lt, nat_le, Bool, List, [], ◌∷◌, Option, Some, None, if◌then◌else◌}
use Rattle.hpack_blocks.specs.declared.fields.Field.{Field}
use Rattle.hpack_blocks.specs.Table.{Table}
use Rattle.hpack_blocks.specs.Reading.{◌>>=◌, field_at, update_at}

-- the fields of a block, and the table behind it; none where it isn't in the grammar
abbrev pub Block : Type 0
Block = Option (List Field × Table)

-- the fields of these bytes, of which the first so many belong to what was read before
unfoldable pub fields_from : Table → ℕ → List ℕ → Block
fields_from t zero [] = Some ([], t)
fields_from t (suc more) [] = None
fields_from t (suc more) (b ∷ bytes) = fields_from t more bytes
fields_from t zero (b ∷ bytes) = do
  x ← field_at t (b ∷ bytes)
  rest ← fields_from x.1 (x.2 - 1) bytes
  Some (x.0 ∷ rest.0, rest.1)

abbrev pub is_update : ℕ → Bool
is_update first = nat_le 32 first && nat_lt first 64

unfoldable pub block_from : Table → ℕ → List ℕ → Block
block_from t more [] = fields_from t more []
block_from t (suc more) (b ∷ bytes) = block_from t more bytes
block_from t zero (b ∷ bytes) = if is_update b then (update_at t (b ∷ bytes) >>= λ x. block_from x.0 (x.1 - 1) bytes) else fields_from t 0 (b ∷ bytes)

abbrev pub block_of : Table → List ℕ → Block
block_of t bytes = block_from t 0 bytes
