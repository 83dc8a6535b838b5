-- What a body gives.
use Rattle.std.proofs.Common.{◌≡◌, ◌≢◌, ◌⊎◌, inl, inr, ℕ, zero, suc, ◌+◌, ◌-◌, ◌<◌, ◌≤◌, Bool, true, false, List, [], ◌∷◌, ◌++◌, length, map, take, drop, get_or, Some, refl, ap, sym, subst, ◌∙◌, append-nil, arith}
use Rattle.std.specs.Prelude.{slice_get, pos, None, Result, Ok, Err, OnErr, if◌then◌else◌, ◌==◌}
use Rattle.std.specs.List.{sum_by, AllByRecursion}
use Rattle.std.specs.Option.{option_map}
use Rattle.std.proofs.lemmas.Bool.{ne_eqb, eqb-false}
use Rattle.std.proofs.lemmas.List.{length-map, length-take, length-drop, drop-drop, drop-map, take_more}
use Rattle.std.proofs.lemmas.List.Concat.{length-flat_map, flat_map-append}
use Rattle.std.proofs.lemmas.Option.{slice_get-map, slice_get-get_or, slice_get_within, get_or_from_slice_get}
use Rattle.column_types.specs.declared.cell.Cell.{Cell}
use Rattle.column_types.specs.declared.column.Column.{Column}
use Rattle.column_types.specs.Fields.{projected}
use Rattle.row_groups.specs.Places.{joined, group_at}
use Rattle.avro_rows.specs.Datum.{datum_of}
use Rattle.read_cursor.specs.declared.found.Place.{Place}
use Rattle.read_cursor.specs.declared.found.Found.TheVariants as found
use Rattle.read_cursor.specs.Lease.{Leased, matching}
use Rattle.read_cursor.specs.Reading.{Reading, Finds, rows_left, moved}
use Rattle.read_msgs.specs.RowsBytes.{read_rows_response_bytes}
use Rattle.row_responses.specs.declared.batch.Step.{Step}
use Rattle.row_responses.specs.declared.batch.Step.TheVariants as step
use Rattle.row_responses.specs.declared.batch.Batch.TheVariants as batch
use Rattle.row_responses.specs.declared.limits.TheConstants.{MAX_RESPONSE_ROWS, MAX_RESPONSE_BYTES}
use Rattle.row_responses.specs.Cut.{fitting, cut}
use Rattle.row_responses.specs.Responses.{data_of, size_of, taken, schema_of, response, responses_from, responses_left, IsPart, Give}
use Rattle.row_responses.specs.Batch.{chosen, with_row, HasNext, IsNext, Steps, Batches, batch_from}
use Rattle.row_responses.specs.Body.{Body, Gives, left_of}
use Rattle.row_responses.proofs.CutLemmas.{cut_none, cut_step, cut_whole, cut_each, fits_within, taken_is}

-- The row at a place.

all_at : {A : Type 0} (Good : A → Type 0) (front back : List A) (place : ℕ) (x : A) → AllByRecursion Good (front ++ back) → slice_get front place ≡ Some x → Good x
all_at Good [] back place x all found = absurd (cc)
all_at Good (y ∷ front) back zero x all found = let same : y ≡ x = cc in subst Good same all.0
all_at Good (y ∷ front) back (suc place) x all found = all_at Good front back place x all.1 found

all_behind : {A : Type 0} (Good : A → Type 0) (front back : List A) → AllByRecursion Good (front ++ back) → AllByRecursion Good back
all_behind Good [] back all = all
all_behind Good (y ∷ front) back all = all_behind Good front back all.1

-- what holds of all rows holds of the row at a place
pub good_at : {A : Type 0} (Good : A → Type 0) (groups : List (List A)) (group place : ℕ) (x : A) → AllByRecursion Good (joined groups) →
    slice_get (group_at groups group) place ≡ Some x → Good x
good_at Good [] group place x all found = absurd (cc)
good_at Good (first ∷ more) zero place x all found = all_at Good first (joined more) place x all found
good_at Good (first ∷ more) (suc group) place x all found = good_at Good more group place x (all_behind Good first (joined more) all) found

pub row_found : (old new : Reading) (place : Place) (row : List Cell) → Finds old new (found.Row place) → row ≡ get_or (group_at new.lease.groups place.group) place.place row →
    slice_get (group_at old.lease.groups place.group) place.place ≡ Some row
row_found old new place row finds is =
    let same : new.lease ≡ old.lease = ap (λ (reading : Reading). reading.lease) finds.3 in
    let here : row ≡ get_or (group_at old.lease.groups place.group) place.place row = is ∙ ap (λ (lease : Leased). get_or (group_at lease.groups place.group) place.place row) same in
    slice_get-get_or (group_at old.lease.groups place.group) place.place row finds.1 ∙ ap (λ (x : List Cell). Some x) (sym here)

get_drop : {A : Type 0} (items : List A) (from k : ℕ) → slice_get (drop from items) k ≡ slice_get items (from + k)
get_drop items zero k = let none : k ≡ 0 + k = omega arith in ap (slice_get items) none
get_drop [] (suc from) k = refl
get_drop (x ∷ more) (suc from) k = let same : suc (from + k) ≡ suc from + k = omega arith in get_drop more from k ∙ ap (slice_get (x ∷ more)) same

-- the row that was found is the next of those left
pub next_left : (reading : Reading) (row : List Cell) → slice_get (matching reading.lease) reading.at ≡ Some row → IsNext reading (projected reading.lease.fields row)
next_left reading row found =
    let here : reading.at ≡ reading.at + 0 = omega arith in
    slice_get-map (projected reading.lease.fields) (drop reading.at (matching reading.lease)) 0
    ∙ ap (option_map (projected reading.lease.fields)) (get_drop (matching reading.lease) reading.at 0 ∙ ap (slice_get (matching reading.lease)) (sym here) ∙ found)

pub next_found : (old new : Reading) (place : Place) (row : List Cell) → Finds old new (found.Row place) → row ≡ get_or (group_at new.lease.groups place.group) place.place row →
    IsNext old (projected old.lease.fields row)
next_found old new place row finds is = next_left old row (sym finds.0 ∙ row_found old new place row finds is)

pub row_written : (columns : List Column) (old new : Reading) (place : Place) (fields : List ℕ) (before after : List ℕ) (row : List Cell) → Finds old new (found.Row place) →
    fields ≡ new.lease.fields → after ≡ before ++ datum_of (projected fields columns) (projected fields row) → after ≡ with_row columns old before (projected old.lease.fields row)
row_written columns old new place fields before after row finds chosen is =
    let same : fields ≡ old.lease.fields = chosen ∙ ap (λ (reading : Reading). reading.lease.fields) finds.3 in
    is ∙ ap (λ (fields : List ℕ). before ++ datum_of (projected fields columns) (projected fields row)) same

take_front : {A : Type 0} (front back : List A) → take (length front) (front ++ back) ≡ front
take_front [] back = refl
take_front {A} (x ∷ front) back = ap (λ (rest : List A). x ∷ rest) (take_front front back)

-- what was written behind others is taken back
pub taken_back : (before after more cut : List ℕ) (count : ℕ) → after ≡ before ++ more → count ≡ length before → cut ≡ take count after → cut ≡ before
taken_back before after more cut count is size e = e ∙ ap (λ (n : ℕ). take n after) size ∙ ap (take (length before)) is ∙ take_front before more

-- where it stood before
pub back_again : (old new : Reading) (at : ℕ) → new.lease ≡ old.lease → at ≡ old.at → record { lease = new.lease; at = at } ≡ old
back_again old new at lease same = ap (λ (l : Leased). record { lease = l; at = at }) lease ∙ ap (λ (n : ℕ). record { lease = old.lease; at = n }) same

-- The rows so far.

pub rows_moved : (reading : Reading) (count : ℕ) → rows_left (moved reading count) ≡ drop count (rows_left reading)
rows_moved reading count =
    ap (map (projected reading.lease.fields)) (sym (drop-drop count reading.at (matching reading.lease)))
    ∙ sym (drop-map (projected reading.lease.fields) count (drop reading.at (matching reading.lease)))

pub length_left : (reading : Reading) → length (rows_left reading) ≡ length (matching reading.lease) - reading.at
length_left reading = length-map (drop reading.at (matching reading.lease)) (projected reading.lease.fields) ∙ length-drop reading.at (matching reading.lease)

data_more : (columns : List Column) (rows : List (List Cell)) (row : List Cell) → data_of columns (rows ++ row ∷ []) ≡ data_of columns rows ++ datum_of columns row
data_more columns rows row =
    flat_map-append (datum_of columns) rows (row ∷ []) ∙ ap (λ (back : List ℕ). data_of columns rows ++ back) (append-nil (datum_of columns row))

-- So many of the rows left are written.
pub record SoFar (columns : List Column) (old now : Reading) (written : List ℕ) (count : ℕ) : Type 0 where
  pub goes : now ≡ moved old count
  pub rows : written ≡ data_of (chosen columns old) (take count (rows_left old))
  pub there : count ≤ length (rows_left old)
  pub small : 1 < count → length written ≤ MAX_RESPONSE_BYTES

moved_none : (reading : Reading) → reading ≡ moved reading 0
moved_none reading = let same : reading.at ≡ reading.at + 0 = omega arith in ap (λ (n : ℕ). record { lease = reading.lease; at = n }) same

moved_more : (old now : Reading) (count : ℕ) → now ≡ moved old count → moved now 1 ≡ moved old (count + 1)
moved_more old now count goes =
    let sum : old.at + count + 1 ≡ old.at + (count + 1) = omega arith in
    ap (λ (reading : Reading). moved reading 1) goes ∙ ap (λ (n : ℕ). record { lease = old.lease; at = n }) sum

pub starts : (columns : List Column) (old : Reading) → SoFar columns old old [] 0
starts columns old = record { goes = moved_none old; rows = refl; there = omega arith; small = λ h. omega arith }

-- the next row stands behind those written
next_is : (old now : Reading) (count : ℕ) (row : List Cell) → now ≡ moved old count → IsNext now row → slice_get (rows_left old) count ≡ Some row
next_is old now count row goes next =
    let here : count + 0 ≡ count = omega arith in
    let at : slice_get (rows_left (moved old count)) 0 ≡ Some row = subst (λ (reading : Reading). IsNext reading row) goes next in
    ap (slice_get (rows_left old)) (sym here) ∙ sym (get_drop (rows_left old) count 0) ∙ ap (λ (rows : List (List Cell)). slice_get rows 0) (sym (rows_moved old count)) ∙ at

take_next : (rows : List (List Cell)) (count : ℕ) (row : List Cell) → slice_get rows count ≡ Some row → take (count + 1) rows ≡ take count rows ++ row ∷ []
take_next rows count row found =
    take_more rows count row (slice_get_within rows count row found) ∙ ap (λ (x : List Cell). take count rows ++ x ∷ []) (get_or_from_slice_get rows count row row found)

data_next : (columns : List Column) (old now : Reading) (written : List ℕ) (count : ℕ) (row : List Cell) → SoFar columns old now written count → IsNext now row →
    with_row columns now written row ≡ data_of (chosen columns old) (take (count + 1) (rows_left old))
data_next columns old now written count row far next =
    let found : slice_get (rows_left old) count ≡ Some row = next_is old now count row far.goes next in
    ap (λ (reading : Reading). with_row columns reading written row) far.goes ∙ ap (λ (front : List ℕ). front ++ datum_of (chosen columns old) row) far.rows
    ∙ sym (data_more (chosen columns old) (take count (rows_left old)) row) ∙ ap (data_of (chosen columns old)) (sym (take_next (rows_left old) count row found))

pub goes_on : (columns : List Column) (old now new : Reading) (written written' : List ℕ) (count : ℕ) → SoFar columns old now written count →
    Steps columns (count == 0) now new written written' step.Written → SoFar columns old new written' (count + 1)
goes_on columns old now new written written' count far steps =
    let row : List Cell = steps.0 in
    let next : IsNext now steps.0 = steps.1 in
    let found : slice_get (rows_left old) count ≡ Some steps.0 = next_is old now count steps.0 far.goes next in
    let within : count < length (rows_left old) = slice_get_within (rows_left old) count steps.0 found in
    record {
      goes = steps.4 ∙ moved_more old now count far.goes;
      rows = steps.2 ∙ data_next columns old now written count steps.0 far next;
      there = omega arith;
      small = λ h. steps.3 (ne_eqb count 0 (λ none. omega arith));
    }

size_is : (columns : List Column) (rows : List (List Cell)) → sum_by (size_of columns) rows ≡ length (data_of columns rows)
size_is columns rows = sym (length-flat_map (datum_of columns) rows)

small_or_one : (columns : List Column) (old now : Reading) (written : List ℕ) (count : ℕ) → SoFar columns old now written (suc count) →
    (suc count ≡ 1) ⊎ (sum_by (size_of (chosen columns old)) (take (suc count) (rows_left old)) ≤ MAX_RESPONSE_BYTES)
small_or_one columns old now written zero far = inl refl
small_or_one columns old now written (suc count) far =
    let small : length written ≤ MAX_RESPONSE_BYTES = far.small (omega arith) in
    let size : length written ≡ length (data_of (chosen columns old) (take (suc (suc count)) (rows_left old))) = ap length far.rows in
    inr (omega (arith, size_is (chosen columns old) (take (suc (suc count)) (rows_left old))))

-- a response is full, or there is no other row
pub ends : (columns : List Column) (old now : Reading) (written : List ℕ) (count : ℕ) → SoFar columns old now written count → count ≤ MAX_RESPONSE_ROWS →
    (count < MAX_RESPONSE_ROWS → count < length (rows_left old) → MAX_RESPONSE_BYTES < length (data_of (chosen columns old) (take (count + 1) (rows_left old)))) →
    (count ≡ 0 → old.at ≡ length (matching old.lease)) → Batches columns old now (batch_from written count)
ends columns old now written zero far few large none = (none refl, far.goes ∙ sym (moved_none old))
ends columns old now written (suc count) far few large none =
    let within : suc count ≤ length (rows_left old) = far.there in (
      omega (arith, within, length_left old),
      taken_is (size_of (chosen columns old)) (rows_left old) MAX_RESPONSE_ROWS MAX_RESPONSE_BYTES (suc count) (omega arith) few within (small_or_one columns old now written count far)
          (λ room more. subst (λ (n : ℕ). MAX_RESPONSE_BYTES < n) (sym (size_is (chosen columns old) (take (suc count + 1) (rows_left old)))) (large room more)),
      within,
      far.rows,
      far.goes,
    )

at_is : (old now : Reading) (count : ℕ) → now ≡ moved old count → now.at ≡ old.at + count
at_is old now count goes = ap (λ (reading : Reading). reading.at) goes

matching_is : (old now : Reading) (count : ℕ) → now ≡ moved old count → length (matching now.lease) ≡ length (matching old.lease)
matching_is old now count goes = ap (λ (reading : Reading). length (matching reading.lease)) goes

ends_full : (columns : List Column) (old now new : Reading) (written written' : List ℕ) (count : ℕ) → SoFar columns old now written count → count < MAX_RESPONSE_ROWS →
    Steps columns (count == 0) now new written written' step.Full → Batches columns old new (batch_from written' count)
ends_full columns old now new written written' count far few steps =
    let next : IsNext now steps.0 = steps.1 in
    let some : count ≡ 0 → ⊥ = eqb-false count 0 steps.3 in
    let beyond : MAX_RESPONSE_BYTES < length (data_of (chosen columns old) (take (count + 1) (rows_left old))) =
    subst (λ (whole : List ℕ). MAX_RESPONSE_BYTES < length whole) (data_next columns old now written count steps.0 far next) steps.4 in
    let batches : Batches columns old now (batch_from written count) = ends columns old now written count far (omega arith) (λ room more. beyond) (λ none. absurd (some none)) in
    rw (steps.5, steps.2) batches

ends_last : (columns : List Column) (old now new : Reading) (written written' : List ℕ) (count : ℕ) → SoFar columns old now written count → count < MAX_RESPONSE_ROWS →
    Steps columns (count == 0) now new written written' step.End → Batches columns old new (batch_from written' count)
ends_last columns old now new written written' count far few steps =
    let at : now.at ≡ old.at + count = at_is old now count far.goes in
    let same : length (matching now.lease) ≡ length (matching old.lease) = matching_is old now count far.goes in
    let here : now.at ≡ length (matching now.lease) = steps.0 in
    let batches : Batches columns old now (batch_from written count) =
    ends columns old now written count far (omega arith) (λ room more. absurd (omega (arith, length_left old))) (λ none. omega arith) in
    rw (steps.2, steps.1) batches

pub ends_now : (columns : List Column) (old now new : Reading) (written written' : List ℕ) (count : ℕ) (what : Step) → SoFar columns old now written count → count < MAX_RESPONSE_ROWS →
    Steps columns (count == 0) now new written written' what → (what ≡ step.Full) ⊎ (what ≡ step.End) → Batches columns old new (batch_from written' count)
ends_now columns old now new written written' count what far few steps (inl full) =
    ends_full columns old now new written written' count far few (subst (Steps columns (count == 0) now new written written') full steps)
ends_now columns old now new written written' count what far few steps (inr end) =
    ends_last columns old now new written written' count far few (subst (Steps columns (count == 0) now new written written') end steps)

pub ends_past : (columns : List Column) (old now new : Reading) (written written' : List ℕ) (count matched : ℕ) → SoFar columns old now written count →
    Steps columns (count == 0) now new written written' (step.PastEnd matched) → Batches columns old new (batch.PastEnd matched)
ends_past columns old now new written written' count matched far steps =
    let at : now.at ≡ old.at + count = at_is old now count far.goes in
    let same : length (matching now.lease) ≡ length (matching old.lease) = matching_is old now count far.goes in
    let beyond : length (matching now.lease) < now.at = steps.0 in
    let there : count ≤ length (rows_left old) = far.there in
    let none : count ≡ 0 = omega (arith, length_left old) in
    (omega arith, steps.1 ∙ same, steps.3 ∙ far.goes ∙ ap (moved old) none ∙ sym (moved_none old))

-- The responses.

nothing : {A : Type 0} (items : List A) → length items ≡ 0 → items ≡ []
nothing [] none = refl
nothing (item ∷ more) none = absurd (omega arith)

from_none : (columns : List Column) (parts : List (List (List Cell))) → responses_from columns false parts ≡ map (response columns false) parts
from_none columns [] = refl
from_none columns (part ∷ parts) = refl

left_step : (columns : List Column) (has_schema : Bool) (rows : List (List Cell)) → 0 < length rows →
    responses_left columns has_schema rows ≡ response columns has_schema (take (taken columns rows) rows) ∷ responses_left columns false (drop (taken columns rows) rows)
left_step columns has_schema rows some =
    let n : ℕ = taken columns rows in
    let one : 1 ≤ taken columns rows = omega arith in
    ap (responses_from columns has_schema) (cut_step (taken columns) rows some one)
    ∙ ap (λ (rest : List (List ℕ)). response columns has_schema (take (taken columns rows) rows) ∷ rest) (sym (from_none columns (cut (taken columns) (drop (taken columns rows) rows))))

pub no_responses : (columns : List Column) (has_schema : Bool) → responses_left columns has_schema [] ≡ []
no_responses columns has_schema = ap (responses_from columns has_schema) (cut_none (taken columns))

pub message_by : (columns : List Column) (old : Reading) (fields : List ℕ) (is_new : Bool) (written message : List ℕ) (count : ℕ) → fields ≡ old.lease.fields →
    message ≡ read_rows_response_bytes (record {
      avro_rows = Some (record { serialized_binary_rows = written });
      row_count = pos count;
      avro_schema = if is_new then Some (schema_of (projected fields columns)) else None;
    }) →
    message ≡ read_rows_response_bytes (record {
      avro_rows = Some (record { serialized_binary_rows = written });
      row_count = pos count;
      avro_schema = if is_new then Some (schema_of (chosen columns old)) else None;
    })
message_by columns old fields is_new written message count same is =
    is ∙ ap (λ (numbers : List ℕ). read_rows_response_bytes (record {
      avro_rows = Some (record { serialized_binary_rows = written });
      row_count = pos count;
      avro_schema = if is_new then Some (schema_of (projected numbers columns)) else None;
    })) same

pub gives : (columns : List Column) (is_new : Bool) (old new : Reading) (written message : List ℕ) (count : ℕ) → Batches columns old new (batch.Rows written count) →
    message ≡ read_rows_response_bytes (record {
      avro_rows = Some (record { serialized_binary_rows = written });
      row_count = pos count;
      avro_schema = if is_new then Some (schema_of (chosen columns old)) else None;
    }) → Gives columns (record { reading = old; is_new = is_new }) (record { reading = new; is_new = false }) message count
gives columns is_new old new written message count batches is =
    let rows : List (List Cell) = rows_left old in
    let there : old.at < length (matching old.lease) = batches.0 in
    let n : count ≡ taken (chosen columns old) (rows_left old) = batches.1 in
    let few : count ≤ length (rows_left old) = batches.2 in
    let one : 1 ≤ taken (chosen columns old) (rows_left old) = omega arith in
    let some : 0 < length (rows_left old) = omega arith in
    let size : count ≡ length (take count (rows_left old)) = omega (arith, length-take count (rows_left old)) in
    let first : message ≡ response (chosen columns old) is_new (take count (rows_left old)) =
    is ∙ ap (λ (bytes : List ℕ). read_rows_response_bytes (record {
      avro_rows = Some (record { serialized_binary_rows = bytes });
      row_count = pos count;
      avro_schema = if is_new then Some (schema_of (chosen columns old)) else None;
    })) batches.3 ∙ ap (λ (k : ℕ). read_rows_response_bytes (record {
      avro_rows = Some (record { serialized_binary_rows = data_of (chosen columns old) (take count (rows_left old)) });
      row_count = pos k;
      avro_schema = if is_new then Some (schema_of (chosen columns old)) else None;
    })) size in
    let rest : left_of columns (record { reading = new; is_new = false }) ≡ responses_left (chosen columns old) false (drop count (rows_left old)) =
    ap (λ (reading : Reading). left_of columns (record { reading = reading; is_new = false })) batches.4
    ∙ ap (responses_left (chosen columns old) false) (rows_moved old count) in
    let whole : responses_left (chosen columns old) is_new (rows_left old)
    ≡ response (chosen columns old) is_new (take count (rows_left old)) ∷ responses_left (chosen columns old) false (drop count (rows_left old)) =
    subst (λ (k : ℕ). responses_left (chosen columns old) is_new (rows_left old)
    ≡ response (chosen columns old) is_new (take k (rows_left old)) ∷ responses_left (chosen columns old) false (drop k (rows_left old))) (sym n)
    (left_step (chosen columns old) is_new (rows_left old) some) in
    record {
      first = whole ∙ ap (λ (front : List ℕ). front ∷ responses_left (chosen columns old) false (drop count (rows_left old))) (sym first)
          ∙ ap (λ (back : List (List ℕ)). message ∷ back) (sym rest);
      some = omega arith;
      there = omega (arith, length_left old);
      goes = ap (λ (reading : Reading). record { reading = reading; is_new = false }) batches.4;
    }

-- nothing is left at the end
pub left_none : (columns : List Column) (body : Body) → body.reading.at ≡ length (matching body.reading.lease) → left_of columns body ≡ []
left_none columns body end =
    let none : rows_left body.reading ≡ [] = nothing (rows_left body.reading) (omega (arith, length_left body.reading)) in
    ap (responses_left (chosen columns body.reading) body.is_new) none ∙ no_responses (chosen columns body.reading) body.is_new

-- a response is left where a row is
pub left_some : (columns : List Column) (reading : Reading) (is_new : Bool) → HasNext reading → left_of columns (record { reading = reading; is_new = is_new }) ≢ []
left_some columns reading is_new more none =
    let some : 0 < length (rows_left reading) = omega (arith, length_left reading, more) in
    let step = left_step (chosen columns reading) is_new (rows_left reading) some in
    absurd (cc)

pub on_err : {U E P : Type 0} (result : Result U E) → P → OnErr result P
on_err (Ok done) holds = tt
on_err (Err want) holds = holds

-- The law.

part_small : (columns : List Column) (items : List (List Cell)) (fit : ℕ) → 0 < length items → fit ≡ fitting (size_of columns) items MAX_RESPONSE_BYTES →
    (length (data_of columns (take (taken columns items) items)) ≤ MAX_RESPONSE_BYTES) ⊎ (length (take (taken columns items) items) ≡ 1)
part_small columns items zero some is = inr (omega (arith, length-take (taken columns items) items))
part_small columns items (suc fit) some is =
    let size = fits_within (size_of columns) items MAX_RESPONSE_BYTES (taken columns items) (omega arith) in
    inl (omega (arith, size.1, size_is columns (take (taken columns items) items)))

part_good : (columns : List Column) (items : List (List Cell)) → 0 < length items → IsPart columns (take (taken columns items) items)
part_good columns items some = record {
  some = omega (arith, length-take (taken columns items) items);
  few = omega (arith, length-take (taken columns items) items);
  small = part_small columns items (fitting (size_of columns) items MAX_RESPONSE_BYTES) some refl;
}

at_least_one : (columns : List Column) (rows : List (List Cell)) → 1 ≤ taken columns rows
at_least_one columns rows = omega arith

pub give : (columns : List Column) (rows : List (List Cell)) → Give columns rows (responses_left columns true rows)
give columns rows = record {
  parts = cut (taken columns) rows;
  whole = cut_whole (taken columns) (length rows) rows (omega arith) (at_least_one columns);
  each = cut_each (IsPart columns) (taken columns) (length rows) rows (omega arith) (at_least_one columns) (part_good columns);
  are = refl;
}
