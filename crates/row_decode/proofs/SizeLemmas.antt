-- The texts and byte strings of a row have no more bytes than the payloads of its message, since no two columns are
-- read from one field.
use Rattle.std.proofs.Common.{◌≡◌, ℕ, ◌+◌, ◌≤◌, Bool, true, false, List, [], ◌∷◌, length, take, drop, map, min, Option, Some, None, Result, Ok, Err, refl, sym, ap, ◌∙◌, IsTrue, cond, arith}
use Rattle.std.specs.Prelude.{not, ◌==◌, ◌&&◌, ◌||◌, if◌then◌else◌}
use Rattle.std.specs.List.{list_any, sum_by, filter_map, cons_option}
use Rattle.std.proofs.lemmas.Cmp.{nat_eq_equiv}
use Rattle.std.proofs.lemmas.List.{length-take}
use Rattle.std.proofs.lemmas.List.Sums.{sum_by-cons}
use Rattle.column_types.specs.declared.column.Kind.{Kind}
use Rattle.column_types.specs.declared.column.Kind.TheVariants as kind
use Rattle.column_types.specs.declared.column.Mode.{Mode}
use Rattle.column_types.specs.declared.column.Mode.TheVariants as mode
use Rattle.column_types.specs.declared.cell.Cell.{Cell}
use Rattle.column_types.specs.declared.cell.Cell.TheVariants as cell
use Rattle.column_types.specs.Sizes.{bytes_of_cell, bytes_of_row}
use Rattle.proto_fields.specs.declared.field.Field.{Field}
use Rattle.proto_fields.specs.declared.field.Value.{Value}
use Rattle.proto_fields.specs.declared.field.Value.TheVariants as value
use Rattle.proto_fields.specs.Record.{Payload, Varint, Fixed64, Len, Fixed32, Record}
use Rattle.proto_fields.specs.Selection.{varints_of, payloads_of, last_of, bytes_for, bytes_in}
use Rattle.proto_fields.specs.Spans.{part, payload_in, record_in, records_in, payload_size, size_in}
use Rattle.row_descriptor.specs.declared.bound.Source.{Source}
use Rattle.row_descriptor.specs.declared.bound.BoundColumn.{BoundColumn}
use Rattle.row_descriptor.specs.Distinct.{are_distinct}
use Rattle.row_descriptor.specs.Binding.{have_one_field, share_number}
use Rattle.row_decode.specs.declared.faults.RowWhy.{RowWhy}
use Rattle.row_decode.specs.declared.faults.RowWhy.TheVariants as why
use Rattle.row_decode.specs.Number.{number_of}
use Rattle.row_decode.specs.Cell.{no_value, int_cell, date_cell, timestamp_cell, text_cell, cell_for, cell_from, cell_of}
use Rattle.row_decode.specs.Row.{in_front, cells_from}

abbrev total : {A : Type 0} → (A → ℕ) → List A → ℕ
total f [] = 0
total f (x ∷ xs) = f x + total f xs

sum_by-total : {A : Type 0} (f : A → ℕ) (xs : List A) → sum_by f xs ≡ total f xs
sum_by-total f [] = refl
sum_by-total f (x ∷ xs) = sum_by-cons f x xs ∙ ap (λ n. f x + n) (sum_by-total f xs)

abbrev len_of : Option (List ℕ) → ℕ
len_of (Some bytes) = length bytes
len_of None = 0

abbrev size_of : Record → ℕ
size_of r = len_of (bytes_in r.payload)

-- the bytes that a column takes of a message, and those of one record that could be its
abbrev taken_from : Option Source → List Record → ℕ
taken_from (Some s) records = len_of (last_of (payloads_of s.number records))
taken_from None records = 0

abbrev hit_from : Record → Option Source → ℕ
hit_from r (Some s) = len_of (bytes_for s.number r)
hit_from r None = 0

abbrev taken : List Record → BoundColumn → ℕ
taken records b = taken_from b.source records

abbrev hit : Record → BoundColumn → ℕ
hit r b = hit_from r b.source

last_grows : (first : Option (List ℕ)) (ps : List (List ℕ)) → len_of (last_of (cons_option first ps)) ≤ len_of (last_of ps) + len_of first
last_grows None ps = omega arith
last_grows (Some bytes) [] = omega arith
last_grows (Some bytes) (p ∷ ps) = omega arith

taken_grows : (r : Record) (records : List Record) (source : Option Source) → taken_from source (r ∷ records) ≤ taken_from source records + hit_from r source
taken_grows r records (Some s) = last_grows (bytes_for s.number r) (payloads_of s.number records)
taken_grows r records None = omega arith

-- a record is one column's at most
miss_by : (t : Bool) (o : Option (List ℕ)) → t ≡ false → len_of (if t then o else None) ≡ 0
miss_by true o e = cc
miss_by false o e = refl

hit_by : (t : Bool) (o : Option (List ℕ)) → len_of (if t then o else None) ≤ len_of o
hit_by true o = omega arith
hit_by false o = omega arith

not_theirs : (r : Record) (s : Source) (source : Option Source) → (r.number == s.number) ≡ true → share_number (Some s) source ≡ false → hit_from r source ≡ 0
not_theirs r s (Some t) e h = miss_by (r.number == t.number) (bytes_in r.payload) (nat_eq_equiv.congr r.number s.number t.number e ∙ h)
not_theirs r s None e h = refl

or-first : (s t : Bool) → s || t ≡ false → s ≡ false
or-first true t e = cc
or-first false t e = refl

or-second : (s t : Bool) → s || t ≡ false → t ≡ false
or-second true t e = cc
or-second false t e = e

none_hit : (r : Record) (s : Source) (b : BoundColumn) (columns : List BoundColumn) → b.source ≡ Some s → (r.number == s.number) ≡ true → list_any (have_one_field b) columns ≡ false → total (hit r) columns ≡ 0
none_hit r s b [] e f h = refl
none_hit r s b (c ∷ columns) e f h =
    let apart : share_number b.source c.source ≡ false = or-first _ _ h in
    let rest : list_any (have_one_field b) columns ≡ false = or-second _ _ h in
    let first : hit r c ≡ 0 = not_theirs r s c.source f (rw e at apart) in
    let others : total (hit r) columns ≡ 0 = none_hit r s b columns e f rest in
    omega arith

and-first : (s t : Bool) → not s && t ≡ true → s ≡ false
and-first true t e = cc
and-first false t e = refl

and-second : (s t : Bool) → s && t ≡ true → t ≡ true
and-second true t e = e
and-second false t e = cc

one_hit : (r : Record) (b : BoundColumn) (columns : List BoundColumn) (source : Option Source) → b.source ≡ source → list_any (have_one_field b) columns ≡ false → total (hit r) columns ≤ size_of r → hit_from r source + total (hit r) columns ≤ size_of r
one_hit r b columns None e h rest = omega arith
one_hit r b columns (Some s) e h rest = by_test (r.number == s.number) refl
  where
    by_test : (t : Bool) → (r.number == s.number) ≡ t → len_of (if (r.number == s.number) then bytes_in r.payload else None) + total (hit r) columns ≤ size_of r
    by_test true f =
        let none : total (hit r) columns ≡ 0 = none_hit r s b columns e f h in
        let most = hit_by (r.number == s.number) (bytes_in r.payload) in
        omega arith
    by_test false f =
        let none : len_of (if (r.number == s.number) then bytes_in r.payload else None) ≡ 0 = miss_by (r.number == s.number) (bytes_in r.payload) f in
        omega arith

hits : (r : Record) (columns : List BoundColumn) → are_distinct have_one_field columns ≡ true → total (hit r) columns ≤ size_of r
hits r [] d = omega arith
hits r (b ∷ columns) d = one_hit r b columns b.source refl (and-first _ _ d) (hits r columns (and-second _ _ d))

grows : (r : Record) (records : List Record) (columns : List BoundColumn) → total (taken (r ∷ records)) columns ≤ total (taken records) columns + total (hit r) columns
grows r records [] = omega arith
grows r records (b ∷ columns) =
    let first : taken (r ∷ records) b ≤ taken records b + hit r b = taken_grows r records b.source in
    let rest : total (taken (r ∷ records)) columns ≤ total (taken records) columns + total (hit r) columns = grows r records columns in
    omega arith

nothing_from : (source : Option Source) → taken_from source [] ≡ 0
nothing_from (Some s) = refl
nothing_from None = refl

nothing : (columns : List BoundColumn) → total (taken []) columns ≡ 0
nothing [] = refl
nothing (b ∷ columns) = rw (nothing_from b.source, nothing columns) refl

all_taken : (columns : List BoundColumn) (records : List Record) → are_distinct have_one_field columns ≡ true → total (taken records) columns ≤ total size_of records
all_taken columns [] d = rw (nothing columns) (omega arith)
all_taken columns (r ∷ records) d =
    let more : total (taken (r ∷ records)) columns ≤ total (taken records) columns + total (hit r) columns = grows r records columns in
    let first : total (hit r) columns ≤ size_of r = hits r columns d in
    let rest : total (taken records) columns ≤ total size_of records = all_taken columns records d in
    omega arith

-- a cell has the bytes of its value, or none
no_bytes : (m : Mode) (at : ℕ) (y : Cell) → no_value at m ≡ Ok y → bytes_of_cell y ≡ 0
no_bytes mode.Nullable at y h = let same : cell.Null ≡ y = cc in rw (← same) refl
no_bytes mode.Required at y h = cc

for_number : (read : ℕ → Result Cell RowWhy) (m : Mode) (at : ℕ) (v : Option ℕ) (y : Cell) → ((n : ℕ) (z : Cell) → read n ≡ Ok z → bytes_of_cell z ≡ 0) → cell_for read (no_value at m) v ≡ Ok y → bytes_of_cell y ≡ 0
for_number read m at (Some n) y reads h = reads n y h
for_number read m at None y reads h = no_bytes m at y h

for_bytes : (read : List ℕ → Result Cell RowWhy) (m : Mode) (at : ℕ) (v : Option (List ℕ)) (y : Cell) → ((b : List ℕ) (z : Cell) → read b ≡ Ok z → bytes_of_cell z ≡ length b) → cell_for read (no_value at m) v ≡ Ok y → bytes_of_cell y ≤ len_of v
for_bytes read m at (Some b) y reads h = let same : bytes_of_cell y ≡ length b = reads b y h in omega arith
for_bytes read m at None y reads h = let same : bytes_of_cell y ≡ 0 = no_bytes m at y h in omega arith

picked : (t : Bool) (v y : Cell) (e : RowWhy) → (if t then Ok v else Err e) ≡ Ok y → v ≡ y
picked true v y e h = cc
picked false v y e h = cc

abbrev good : Cell → Result Cell RowWhy
good y = Ok y

same_good : (v y : Cell) → good v ≡ Ok y → v ≡ y
same_good v y h = cc

from_size : (at : ℕ) (k : Kind) (m : Mode) (s : Source) (records : List Record) (y : Cell) → cell_from at k m s records ≡ Ok y → bytes_of_cell y ≤ len_of (last_of (payloads_of s.number records))
from_size at kind.Int64 m s records y h = let none : bytes_of_cell y ≡ 0 = for_number (λ n. int_cell at (number_of s.field_type n)) m at _ y (λ n z g. sym (ap bytes_of_cell (picked _ (cell.Int (number_of s.field_type n)) z (why.OutOfRange at) g))) h in omega arith
from_size at kind.Bool m s records y h = let none : bytes_of_cell y ≡ 0 = for_number (λ n. Ok (cell.Bool (not (n == 0)))) m at _ y (λ n z g. sym (ap bytes_of_cell (same_good (cell.Bool (not (n == 0))) z g))) h in omega arith
from_size at kind.Date m s records y h = let none : bytes_of_cell y ≡ 0 = for_number (λ n. date_cell at (number_of s.field_type n)) m at _ y (λ n z g. sym (ap bytes_of_cell (picked _ (cell.Date (number_of s.field_type n)) z (why.OutOfRange at) g))) h in omega arith
from_size at kind.Timestamp m s records y h = let none : bytes_of_cell y ≡ 0 = for_number (λ n. timestamp_cell at (number_of s.field_type n)) m at _ y (λ n z g. sym (ap bytes_of_cell (picked _ (cell.Timestamp (number_of s.field_type n)) z (why.OutOfRange at) g))) h in omega arith
from_size at kind.Str m s records y h = for_bytes (text_cell at) m at _ y (λ b z g. sym (ap bytes_of_cell (picked _ (cell.Str b) z (why.BadText at) g))) h
from_size at kind.Bytes m s records y h = for_bytes (λ b. Ok (cell.Bytes b)) m at _ y (λ b z g. sym (ap bytes_of_cell (same_good (cell.Bytes b) z g))) h

source_size : (at : ℕ) (k : Kind) (m : Mode) (source : Option Source) (records : List Record) (y : Cell) → cell_for (λ s. cell_from at k m s records) (no_value at m) source ≡ Ok y → bytes_of_cell y ≤ taken_from source records
source_size at k m (Some s) records y h = from_size at k m s records y h
source_size at k m None records y h = let none : bytes_of_cell y ≡ 0 = no_bytes m at y h in omega arith

cell_size : (at : ℕ) (b : BoundColumn) (records : List Record) (y : Cell) → cell_of at b records ≡ Ok y → bytes_of_cell y ≤ taken records b
unfolding cell_of
cell_size at b records y h = source_size at b.kind b.mode b.source records y h

split_size : (r : Result Cell RowWhy) (rest : Result (List Cell) RowWhy) (m n : ℕ) (cells : List Cell) → in_front r rest ≡ Ok cells → ((y : Cell) → r ≡ Ok y → bytes_of_cell y ≤ m) → ((ys : List Cell) → rest ≡ Ok ys → total bytes_of_cell ys ≤ n) → total bytes_of_cell cells ≤ m + n
split_size (Err e) rest m n cells h first others = cc
split_size (Ok y) (Err e) m n cells h first others = cc
split_size (Ok y) (Ok ys) m n cells h first others =
    let same : y ∷ ys ≡ cells = cc in
    let a : bytes_of_cell y ≤ m = first y refl in
    let b : total bytes_of_cell ys ≤ n = others ys refl in
    rw (← same) (omega arith)

cells_size : (at : ℕ) (binding : List BoundColumn) (records : List Record) (cells : List Cell) → cells_from at binding records ≡ Ok cells → total bytes_of_cell cells ≤ total (taken records) binding
cells_size at [] records cells h = let none : [] ≡ cells = cc in rw (← none) (omega arith)
cells_size at (b ∷ binding) records cells h =
    split_size (cell_of at b records) (cells_from (at + 1) binding records) (taken records b) (total (taken records) binding) cells h
    (cell_size at b records) (cells_size (at + 1) binding records)

value_size : (bytes : List ℕ) (v : Value) → len_of (bytes_in (payload_in bytes v)) ≤ size_in v
value_size bytes (value.Varint n) = omega arith
value_size bytes (value.Fixed64 n) = omega arith
value_size bytes (value.Len span) = rw (length-take span.len (drop span.start bytes)) (omega arith)
value_size bytes (value.Fixed32 n) = omega arith

records_size : (bytes : List ℕ) (fields : List Field) → total size_of (records_in bytes fields) ≤ total payload_size fields
records_size bytes [] = omega arith
records_size bytes (f ∷ fields) =
    let first : len_of (bytes_in (payload_in bytes f.value)) ≤ size_in f.value = value_size bytes f.value in
    let rest : total size_of (records_in bytes fields) ≤ total payload_size fields = records_size bytes fields in
    omega arith

-- cells that were read have no more bytes than the fields' payloads
pub cells_from-size : (binding : List BoundColumn) (bytes : List ℕ) (fields : List Field) (cells : List Cell) → IsTrue (are_distinct have_one_field binding) → cells_from 0 binding (records_in bytes fields) ≡ Ok cells → bytes_of_row cells ≤ sum_by payload_size fields
cells_from-size binding bytes fields cells apart h =
    let a : total bytes_of_cell cells ≤ total (taken (records_in bytes fields)) binding = cells_size 0 binding (records_in bytes fields) cells h in
    let b : total (taken (records_in bytes fields)) binding ≤ total size_of (records_in bytes fields) = all_taken binding (records_in bytes fields) apart in
    let d : total size_of (records_in bytes fields) ≤ total payload_size fields = records_size bytes fields in
    rw (sum_by-total bytes_of_cell cells, sum_by-total payload_size fields) (omega arith)
