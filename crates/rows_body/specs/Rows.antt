-- What a body of a ReadRows call is still to give, and what a poll takes of it.
use Rattle.std.specs.Prelude.{◌≡◌, ◌≢◌, ◌⊎◌, ℕ, ◌<◌, nat_lt, Bool, true, false, List, [], ◌∷◌, ◌++◌, length, map, Option, Some, None, Result, Ok, Err, if◌then◌else◌}
use Rattle.futures.specs.declared.task.Poll.{Poll}
use Rattle.futures.specs.declared.task.Poll.TheVariants.{Ready, Pending}
use Rattle.column_types.specs.declared.column.Column.{Column}
use Rattle.read_cursor.specs.Lease.{matching}
use Rattle.read_cursor.specs.Reading.{Reading}
use Rattle.row_responses.specs.Body.{Body, left_of}
use Rattle.rows_body.specs.declared.body.RowsEnd.{RowsEnd}
use Rattle.rows_body.specs.declared.body.RowsEnd.TheVariants as rows_end

-- a response, or why there is no other
abbrev pub Item : Type 0
Item = Result (List ℕ) RowsEnd

-- The items still to come, the room for them, and the name of the source that wakes the one who polls.
pub record Rows : Type 0 where
  pub left : List Item
  pub room : ℕ
  pub source : ℕ

-- the responses of the rows left, where the offset isn't beyond the number of matching rows
abbrev pub items_behind : List Column → Body → List Item
items_behind columns body =
    let matched = length (matching body.reading.lease) in
    if nat_lt matched body.reading.at then Err (rows_end.PastEnd matched) ∷ [] else map Ok (left_of columns body)

-- the items of a call that is to give the rows from a place of a lease on
abbrev pub items_of : List Column → Reading → List Item
items_of columns reading = items_behind columns (record { reading = reading; is_new = true })

-- nothing comes behind an error
abbrev pub items_left : List Column → (is_over : Bool) → Body → List Item
items_left columns true body = []
items_left columns false body = items_behind columns body

-- The first item of those left; or want of memory, in the place of one; or the end, where none is left. Behind an error none
-- is left.
abbrev pub Takes : (old new : List Item) → Option Item → Type 0
Takes old new None = (old ≡ []) × (new ≡ [])
Takes old new (Some (Ok message)) = old ≡ Ok message ∷ new
Takes old new (Some (Err (rows_end.PastEnd matched))) = (old ≡ Err (rows_end.PastEnd matched) ∷ []) × (new ≡ [])
Takes old new (Some (Err rows_end.Memory)) = (old ≢ []) × (new ≡ [])

-- Pending exactly where there is no room, and then nothing is taken.
abbrev pub Polls : Rows → Rows → Poll (Option Item) → Type 0
Polls old new Pending = (old.room ≡ 0) × (new ≡ old)
Polls old new (Ready item) = (0 < old.room) × Takes old.left new.left item × (new ≡ record old { left = new.left })

-- Want of memory was the last of these items. Those before it are the first of those left, and it stands in the place of one.
pub record Breaks (left items : List Item) : Type 0 where
  pub front : List Item
  pub lost : Item
  pub more : List Item
  pub last : items ≡ front ++ Err rows_end.Memory ∷ []
  pub was : left ≡ front ++ lost ∷ more

-- these are the first of those left
abbrev pub IsFront : (left items : List Item) → Type 0
IsFront left items = (more : List Item) × (left ≡ items ++ more)

-- Polls may give these items in order and then this answer: the first of those left, and all of them where the end is
-- answered, unless want of memory cuts them short.
abbrev pub MayGive : (left items : List Item) → Option Item → Type 0
MayGive left items None = (left ≡ items) ⊎ Breaks left items
MayGive left items (Some item) = IsFront left (items ++ item ∷ []) ⊎ Breaks left (items ++ item ∷ [])

-- Polls with room gave these items one after another, and others are left.
abbrev pub AreTaken : (old items new : List Item) → Type 0
AreTaken old [] new = new ≡ old
AreTaken old (item ∷ items) new = (mid : List Item) × Takes old mid (Some item) × AreTaken mid items new
