-- What a chunk gives.
use Rattle.std.proofs.Common.{◌≡◌, ℕ, zero, suc, ◌+◌, ◌-◌, ◌<◌, ◌≤◌, List, [], ◌∷◌, ◌++◌, length, map, get_or, take, drop, Some, refl, ap, sym, subst, ◌∙◌, arith, suc-add}
use Rattle.std.specs.Prelude.{slice_get}
use Rattle.std.specs.Option.{option_map}
use Rattle.std.proofs.lemmas.List.{take_more, length_push}
use Rattle.std.proofs.lemmas.Option.{slice_get-map, slice_get-get_or, slice_get_within, get_or_from_slice_get}
use Rattle.column_types.specs.declared.cell.Cell.{Cell}
use Rattle.column_types.specs.Fields.{projected}
use Rattle.row_groups.specs.Places.{group_at}
use Rattle.read_cursor.specs.declared.found.Place.{Place}
use Rattle.read_cursor.specs.declared.found.Found.TheVariants as found
use Rattle.read_cursor.specs.declared.walk.Walk.{Walk}
use Rattle.read_cursor.specs.Lease.{Leased, matching}
use Rattle.read_cursor.specs.Reading.{Reading, Finds, reading_of, rows_left}

get_drop : {A : Type 0} (items : List A) (from k : ℕ) → slice_get (drop from items) k ≡ slice_get items (from + k)
get_drop items zero k = let none : k ≡ 0 + k = omega arith in ap (slice_get items) none
get_drop [] (suc from) k = refl
get_drop (x ∷ more) (suc from) k = rw (suc-add from k) (get_drop more from k)

-- one more row
pub one_more : {A : Type 0} (f : A → A) (items : List A) (at n : ℕ) (rows : List A) (row : A) → rows ≡ take n (map f (drop at items)) →
    slice_get items (at + n) ≡ Some row → rows ++ f row ∷ [] ≡ take (n + 1) (map f (drop at items))
one_more f items at n rows row e found =
    let here : slice_get (map f (drop at items)) n ≡ Some (f row) = slice_get-map f (drop at items) n ∙ ap (option_map f) (get_drop items at n ∙ found) in
    let within : n < length (map f (drop at items)) = slice_get_within _ n _ here in
    let item : get_or (map f (drop at items)) n (f row) ≡ f row = get_or_from_slice_get _ n (f row) (f row) here in
    sym (take_more (map f (drop at items)) n (f row) within ∙ ap (λ (x : _). take n (map f (drop at items)) ++ x ∷ []) item ∙ ap (λ (front : List _). front ++ f row ∷ []) (sym e))

-- one more row that was found is copied
pub more_given : (lease : Leased) (place : Place) (at : ℕ) (old new : Walk) (rows rows' : List (List Cell)) (row : List Cell) →
    Finds (reading_of lease old) (reading_of lease new) (found.Row place) → old.passed + old.skip ≡ at + length rows →
    rows ≡ take (length rows) (rows_left (record { lease = lease; at = at })) → row ≡ get_or (group_at lease.groups place.group) place.place row →
    rows' ≡ rows ++ projected lease.fields row ∷ [] →
    (new.passed + new.skip ≡ at + length rows') × (rows' ≡ take (length rows') (rows_left (record { lease = lease; at = at }))) ×
    (length rows' ≤ length (matching lease) - at) × (length rows' ≡ length rows + 1)
more_given lease place at old new rows rows' row finds sum e is items =
    let next : new.passed + new.skip ≡ old.passed + old.skip + 1 = ap (λ (reading : Reading). reading.at) finds.3 in
    let there : place.place < length (group_at lease.groups place.group) = finds.1 in
    let within : old.passed + old.skip < length (matching lease) = finds.2 in
    let here : slice_get (matching lease) (old.passed + old.skip) ≡ Some row =
    sym finds.0 ∙ slice_get-get_or (group_at lease.groups place.group) place.place row there ∙ ap (λ (x : List Cell). Some x) (sym is) in
    let row_here : slice_get (matching lease) (at + length rows) ≡ Some row = subst (λ (n : ℕ). slice_get (matching lease) n ≡ Some row) sum here in
    let longer : length rows' ≡ length rows + 1 = ap length items ∙ length_push rows (projected lease.fields row) in
    let more : rows' ≡ take (length rows + 1) (rows_left (record { lease = lease; at = at })) =
    items ∙ one_more (projected lease.fields) (matching lease) at (length rows) rows row e row_here in
    (omega arith, subst (λ (n : ℕ). rows' ≡ take n (rows_left (record { lease = lease; at = at }))) (sym longer) more, omega arith, longer)
