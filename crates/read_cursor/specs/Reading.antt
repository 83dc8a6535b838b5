-- What a cursor gives: the matching rows of its lease, in order, from a place among them on.
use Rattle.std.specs.Prelude.{◌≡◌, ℕ, ◌+◌, ◌-◌, ◌<◌, ◌≤◌, min, List, [], ◌∷◌, length, take, drop, map, filter, slice_get}
use Rattle.column_types.specs.declared.cell.Cell.{Cell}
use Rattle.column_types.specs.Fields.{projected}
use Rattle.row_groups.specs.Places.{joined, group_at, IsPlace}
use Rattle.read_cursor.specs.declared.found.Place.{Place}
use Rattle.read_cursor.specs.declared.found.Found.{Found}
use Rattle.read_cursor.specs.declared.found.Found.TheVariants as found
use Rattle.read_cursor.specs.declared.found.Chunk.{Chunk}
use Rattle.read_cursor.specs.declared.found.Chunk.TheVariants as chunk
use Rattle.read_cursor.specs.declared.found.TheConstants.{MAX_CHUNK_ROWS}
use Rattle.read_cursor.specs.declared.walk.Walk.{Walk}
use Rattle.read_cursor.specs.declared.cursor.Mark.{Mark}
use Rattle.read_cursor.specs.Lease.{Leased, between, keeps, matching}

-- how many matching rows were given or are to be skipped
pub record Reading : Type 0 where
  pub lease : Leased
  pub at : ℕ

-- the rows still to give, each with the chosen columns alone
abbrev pub rows_left : Reading → List (List Cell)
rows_left reading = map (projected reading.lease.fields) (drop reading.at (matching reading.lease))

abbrev pub moved : Reading → ℕ → Reading
moved reading count = record { lease = reading.lease; at = reading.at + count }

-- The row at a place of the spine is the next matching row, or there is none.
abbrev pub Finds : Reading → Reading → Found → Type 0
Finds old new (found.Row place) =
    (slice_get (group_at old.lease.groups place.group) place.place ≡ slice_get (matching old.lease) old.at) ×
    (place.place < length (group_at old.lease.groups place.group)) × (old.at < length (matching old.lease)) × (new ≡ moved old 1)
Finds old new found.End = (old.at ≡ length (matching old.lease)) × (new ≡ old)
Finds old new (found.PastEnd matched) =
    (length (matching old.lease) < old.at) × (matched ≡ length (matching old.lease)) × (new ≡ old)

-- As many of the rows still to give as there are, at most 1,024; or there is none.
abbrev pub Gives : Reading → Reading → Chunk → Type 0
Gives old new (chunk.Rows rows count) =
    (rows ≡ take count (rows_left old)) × (0 < count) × (count ≡ min MAX_CHUNK_ROWS (length (matching old.lease) - old.at)) × (new ≡ moved old count)
Gives old new chunk.End = (old.at ≡ length (matching old.lease)) × (new ≡ old)
Gives old new (chunk.PastEnd matched) =
    (length (matching old.lease) < old.at) × (matched ≡ length (matching old.lease)) × (new ≡ old)

-- some rows as a chunk
abbrev pub chunk_from : List (List Cell) → Chunk
chunk_from [] = chunk.End
chunk_from (first ∷ more) = chunk.Rows (first ∷ more) (length (first ∷ more))

-- A walk stands at a position, with the place of it, and has passed the matching rows before it.
pub record Walks (lease : Leased) (position : ℕ) (place : Place) (passed : ℕ) : Type 0 where
  pub within : lease.hi ≤ length (joined lease.groups)
  pub low : lease.lo ≤ position
  pub high : position ≤ lease.hi
  pub here : position < lease.hi → IsPlace lease.groups position place.group place.place
  pub counted : passed ≡ length (filter (keeps lease.pred) (between lease.lo position (joined lease.groups)))

-- A mark was made in this lease, where so many matching rows were given or are to be skipped.
abbrev pub StandsIn : Leased → Mark → Type 0
StandsIn lease mark = Walks lease mark.walk.position mark.walk.place mark.walk.passed

abbrev pub mark_at : Mark → ℕ
mark_at mark = mark.walk.passed + mark.walk.skip

abbrev pub reading_of : Leased → Walk → Reading
reading_of lease walk = record { lease = lease; at = walk.passed + walk.skip }

-- A walk went over one row, and says whether it matches.
pub record Steps (lease : Leased) (old new : Walk) (matches : ℕ) : Type 0 where
  pub walks : Walks lease new.position new.place new.passed
  pub on : new.position ≡ old.position + 1
  pub passed : new.passed ≡ old.passed + matches
  pub skip : new.skip ≡ old.skip

-- The row at a place of the spine is the matching row of this number.
pub record IsMatch (lease : Leased) (place : Place) (number : ℕ) : Type 0 where
  pub row : slice_get (group_at lease.groups place.group) place.place ≡ slice_get (matching lease) number
  pub there : place.place < length (group_at lease.groups place.group)
  pub within : number < length (matching lease)
