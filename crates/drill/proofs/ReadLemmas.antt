-- Rows of one lease.
use Rattle.std.proofs.Common.{◌≡◌, ℕ, suc, ◌+◌, ◌-◌, ◌<◌, ◌≤◌, List, [], ◌∷◌, ◌++◌, append_assoc, length, map, get_or, take, drop, Some, ap, sym, ◌∙◌, arith}
use Rattle.std.specs.Prelude.{slice_get}
use Rattle.std.proofs.lemmas.List.{append-nil, take_all, take-append-drop, drop_all, drop_more, drop-drop, drop-map, length-map}
use Rattle.std.proofs.lemmas.Option.{slice_get-get_or, slice_get_within, get_or_from_slice_get}
use Rattle.column_types.specs.declared.cell.Cell.{Cell}
use Rattle.column_types.specs.Fields.{projected}
use Rattle.row_groups.specs.Places.{group_at}
use Rattle.read_cursor.specs.declared.found.Place.{Place}
use Rattle.read_cursor.specs.declared.found.Found.TheVariants as found
use Rattle.read_cursor.specs.declared.found.Chunk.TheVariants as chunk
use Rattle.read_cursor.specs.Lease.{Leased, matching}
use Rattle.read_cursor.specs.Reading.{Reading, Finds, Gives, rows_left, moved}
use Rattle.drill.specs.Parts.{AreFirst}
use Rattle.drill.specs.Reads.{rows_behind}

left_at : (f : List Cell → List Cell) (items : List (List Cell)) (at : ℕ) (row : List Cell) → slice_get items at ≡ Some row
    → map f (drop at items) ≡ f row ∷ map f (drop (at + 1) items)
left_at f items at row here =
    ap (map f) (drop_more items at row (slice_get_within items at row here) ∙ ap (λ x. x ∷ drop (at + 1) items) (get_or_from_slice_get items at row row here))

-- the row that a cursor found is the next one
pub next_row : (old new : Reading) (place : Place) (row : List Cell) → Finds old new (found.Row place) → row ≡ get_or (group_at new.lease.groups place.group) place.place row
    → rows_left old ≡ projected new.lease.fields row ∷ rows_left new
next_row old new place row finds is =
    let now : new ≡ moved old 1 = finds.3 in
    let row_is : row ≡ get_or (group_at old.lease.groups place.group) place.place row =
    is ∙ ap (λ (reading : Reading). get_or (group_at reading.lease.groups place.group) place.place row) now in
    let here : slice_get (matching old.lease) old.at ≡ Some row =
    sym finds.0 ∙ slice_get-get_or (group_at old.lease.groups place.group) place.place row finds.1 ∙ ap Some (sym row_is) in
    left_at (projected old.lease.fields) (matching old.lease) old.at row here
    ∙ ap (λ (reading : Reading). projected reading.lease.fields row ∷ rows_left reading) (sym now)

-- behind the last row there is none
pub none_left : (reading : Reading) → length (matching reading.lease) ≤ reading.at → rows_left reading ≡ []
none_left reading far = ap (map (projected reading.lease.fields)) (drop_all reading.at (matching reading.lease) far)

-- how many rows are left
pub length_behind : (lease : Leased) → length (rows_behind lease 0) ≡ length (matching lease)
length_behind lease = length-map (matching lease) (projected lease.fields)

rows_moved : (reading : Reading) (count : ℕ) → rows_left (moved reading count) ≡ drop count (rows_left reading)
rows_moved reading count =
    ap (map (projected reading.lease.fields)) (sym (drop-drop count reading.at (matching reading.lease)))
    ∙ sym (drop-map (projected reading.lease.fields) count (drop reading.at (matching reading.lease)))

-- the rows of a chunk come first of those left
pub chunk_first : (old new : Reading) (rows : List (List Cell)) (count : ℕ) → Gives old new (chunk.Rows rows count) → rows ++ rows_left new ≡ rows_left old
chunk_first old new rows count gives =
    ap (λ (front : List (List Cell)). front ++ rows_left new) gives.0
    ∙ ap (λ (reading : Reading). take count (rows_left old) ++ rows_left reading) gives.3
    ∙ ap (λ (behind : List (List Cell)). take count (rows_left old) ++ behind) (rows_moved old count)
    ∙ take-append-drop count (rows_left old)

-- a chunk more behind the rows
pub chunk_more : (all rows more rows' left left' : List (List Cell)) → rows ++ left ≡ all → rows' ≡ rows ++ more → more ++ left' ≡ left → rows' ++ left' ≡ all
chunk_more all rows more rows' left left' so is first =
    ap (λ (front : List (List Cell)). front ++ left') is ∙ append_assoc rows more left' ∙ ap (λ (behind : List (List Cell)). rows ++ behind) first ∙ so

-- one row more of so many
pub row_more : (all rows rows' left left' : List (List Cell)) (row : List Cell) (count n : ℕ) → n < count → rows ++ take (count - n) left ≡ all
    → left ≡ row ∷ left' → rows' ≡ rows ++ row ∷ [] → rows' ++ take (count - (n + 1)) left' ≡ all
row_more all rows rows' left left' row count n more so next is =
    let one : count - n ≡ suc (count - (n + 1)) = omega (arith, more) in
    ap (λ (front : List (List Cell)). front ++ take (count - (n + 1)) left') is
    ∙ append_assoc rows (row ∷ []) (take (count - (n + 1)) left')
    ∙ ap (λ (behind : List (List Cell)). rows ++ behind) (sym (ap (λ (k : ℕ). take k left) one ∙ ap (take (suc (count - (n + 1)))) next))
    ∙ so

-- no row more
pub no_more : (all rows left : List (List Cell)) (count : ℕ) → rows ++ take count left ≡ all → left ≡ [] → rows ≡ all
no_more all rows left count so none =
    sym (append-nil rows) ∙ ap (λ (behind : List (List Cell)). rows ++ behind) (sym (ap (take count) none ∙ take_all count [] (omega arith))) ∙ so

-- so many rows were read
pub all_taken : (all rows left : List (List Cell)) (count n : ℕ) → rows ++ take (count - n) left ≡ all → count ≤ n → rows ≡ all
all_taken all rows left count n so end =
    let none : count - n ≡ 0 = omega (arith, end) in
    sym (append-nil rows) ∙ ap (λ (k : ℕ). rows ++ take k left) (sym none) ∙ so

-- the first of the rows behind those that were read are read
pub first_taken : (read more new : List (List Cell)) (count : ℕ) → new ≡ read ++ take count more → AreFirst new (read ++ more)
first_taken read more new count is = (
  drop count more,
  ap (λ (l : List (List Cell)). read ++ l) (sym (take-append-drop count more)) ∙ sym (append_assoc read (take count more) (drop count more)) ∙ ap (λ (l : List (List Cell)). l ++ drop count more) (sym is),
)
