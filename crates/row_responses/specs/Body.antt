-- What a body gives: the responses that its reader is still to get.
use Rattle.std.specs.Prelude.{◌≡◌, ℕ, ◌+◌, ◌<◌, ◌≤◌, Bool, false, List, [], ◌∷◌, length}
use Rattle.std.specs.List.{AllByRecursion}
use Rattle.column_types.specs.declared.column.Column.{Column}
use Rattle.column_types.specs.Fields.{IsMadeFor, projected}
use Rattle.column_types.specs.Row.{Fits}
use Rattle.row_groups.specs.Places.{joined}
use Rattle.read_cursor.specs.Lease.{Leased, matching}
use Rattle.read_cursor.specs.Reading.{Reading, rows_left, moved}
use Rattle.row_responses.specs.declared.body.NextResponse.{NextResponse}
use Rattle.row_responses.specs.declared.body.NextResponse.TheVariants as next
use Rattle.row_responses.specs.Responses.{responses_left}

-- where it stands in its lease, and whether no response was given yet
pub record Body : Type 0 where
  pub reading : Reading
  pub is_new : Bool

-- The rows of a lease fit a schema, and its fields are made for it.
pub record IsOf (columns : List Column) (lease : Leased) : Type 0 where
  pub fit : AllByRecursion (Fits columns) (joined lease.groups)
  pub made : IsMadeFor columns lease.fields

-- the responses still to give, read by a schema
abbrev pub left_of : List Column → Body → List (List ℕ)
left_of columns body = responses_left (projected body.reading.lease.fields columns) body.is_new (rows_left body.reading)

-- A response of this many rows was given, the first of those left.
pub record Gives (columns : List Column) (old new : Body) (message : List ℕ) (count : ℕ) : Type 0 where
  pub first : left_of columns old ≡ message ∷ left_of columns new
  pub some : 0 < count
  pub there : old.reading.at + count ≤ length (matching old.reading.lease)
  pub goes : new ≡ record { reading = moved old.reading count; is_new = false }

-- whether no response was given yet behind this answer
abbrev pub is_new_behind : Bool → NextResponse → Bool
is_new_behind is_new (next.Response message) = false
is_new_behind is_new next.End = is_new
is_new_behind is_new (next.PastEnd matched) = is_new

-- The next response of those left; or all were given; or the reader asked for rows from behind the last one on.
abbrev pub Nexts : List Column → Body → Body → NextResponse → Type 0
Nexts columns old new (next.Response message) = (count : ℕ) × Gives columns old new message count
Nexts columns old new next.End = (old.reading.at ≡ length (matching old.reading.lease)) × (left_of columns old ≡ []) × (new ≡ old)
Nexts columns old new (next.PastEnd matched) =
    (length (matching old.reading.lease) < old.reading.at) × (matched ≡ length (matching old.reading.lease)) × (new ≡ old)
