-- What is read of a lease.
use Rattle.std.specs.Prelude.{◌≡◌, ℕ, Bool, true, false, List, [], ◌∷◌, ◌++◌}
use Rattle.column_types.specs.declared.cell.Cell.{Cell}
use Rattle.read_cursor.specs.Lease.{Leased}
use Rattle.read_cursor.specs.Reading.{Reading, rows_left}

-- the rows of a lease behind the first ones
abbrev pub rows_behind : Leased → ℕ → List (List Cell)
rows_behind lease at = rows_left (record { lease = lease; at = at })

-- The next row is read, or there is none.
abbrev pub ReadsOne : Reading → Reading → List (List Cell) → List (List Cell) → Bool → Type 0
ReadsOne old new before after true = (row : List Cell) × (rows_left old ≡ row ∷ rows_left new) × (after ≡ before ++ row ∷ [])
ReadsOne old new before after false = (rows_left old ≡ []) × (after ≡ before)
