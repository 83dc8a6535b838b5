-- A row that was decoded fits the columns of its binding.
use Rattle.std.proofs.Common.{◌≡◌, ℕ, suc, ◌+◌, Bool, true, false, List, [], ◌∷◌, length, map, Option, Some, None, Result, Ok, Err, refl, sym, ap, ◌∙◌, All}
use Rattle.std.specs.Prelude.{ℤ, not, ◌==◌, ◌&&◌, if◌then◌else◌, IsTrue}
use Rattle.std.specs.List.{list_all, zip}
use Rattle.std.specs.Str.{is_utf8}
use Rattle.std.proofs.lemmas.List.Elements.{All-nil, All-cons}
use Rattle.std.proofs.lemmas.Cmp.{nat_eq_equiv}
use Rattle.column_types.specs.declared.column.Column.{Column}
use Rattle.column_types.specs.declared.column.Kind.{Kind}
use Rattle.column_types.specs.declared.column.Kind.TheVariants as kind
use Rattle.column_types.specs.declared.column.Mode.{Mode}
use Rattle.column_types.specs.declared.column.Mode.TheVariants as mode
use Rattle.column_types.specs.declared.cell.Cell.{Cell}
use Rattle.column_types.specs.declared.cell.Cell.TheVariants as cell
use Rattle.column_types.specs.declared.ranges.TheConstants.{LEAST_INT64, GREATEST_INT64, FIRST_DAY, LAST_DAY, FIRST_INSTANT, LAST_INSTANT}
use Rattle.column_types.specs.Row.{is_between, is_nullable, is_of_kind, fits_column, fits_columns, Fits}
use Rattle.proto_fields.specs.Record.{Record}
use Rattle.proto_fields.specs.Message.{fields_of}
use Rattle.proto_fields.specs.Selection.{varints_of, payloads_of, last_of}
use Rattle.row_descriptor.specs.declared.bound.Source.{Source}
use Rattle.row_descriptor.specs.declared.bound.BoundColumn.{BoundColumn}
use Rattle.row_descriptor.specs.Binding.{IsBoundTo, kind_and_mode, column_kind_and_mode}
use Rattle.row_decode.specs.declared.faults.RowWhy.{RowWhy}
use Rattle.row_decode.specs.declared.faults.RowWhy.TheVariants as why
use Rattle.row_decode.specs.Number.{number_of}
use Rattle.row_decode.specs.Cell.{no_value, int_cell, date_cell, timestamp_cell, text_cell, cell_for, cell_from, cell_of}
use Rattle.row_decode.specs.Row.{in_front, cells_from, row_by, row_of}
use Rattle.row_decode.specs.Answers.{AreRows}

-- a value that passed a test
picked : (t : Bool) (v y : Cell) (e : RowWhy) → (if t then Ok v else Err e) ≡ Ok y → (t ≡ true) × (v ≡ y)
picked true v y e h = (refl, cc)
picked false v y e h = cc

-- a reading gives only cells that fit
abbrev ReadsFitting : {A : Type 0} → Column → (A → Result Cell RowWhy) → Type 0
ReadsFitting {A} c read = (a : A) (y : Cell) → read a ≡ Ok y → fits_column c y ≡ true

none_fits : (c : Column) (m : Mode) (at : ℕ) (y : Cell) → m ≡ c.mode → no_value at m ≡ Ok y → fits_column c y ≡ true
none_fits c mode.Nullable at y e h = let null : cell.Null ≡ y = cc in rw (← null, ← e) refl
none_fits c mode.Required at y e h = cc

fits_for : {A : Type 0} (c : Column) (read : A → Result Cell RowWhy) (m : Mode) (at : ℕ) (v : Option A) (y : Cell) → m ≡ c.mode → ReadsFitting c read → cell_for read (no_value at m) v ≡ Ok y → fits_column c y ≡ true
fits_for c read m at (Some a) y e reads h = reads a y h
fits_for c read m at None y e reads h = none_fits c m at y e h

int_fits : (c : Column) (at : ℕ) (z : ℤ) (y : Cell) → kind.Int64 ≡ c.kind → int_cell at z ≡ Ok y → fits_column c y ≡ true
int_fits c at z y e h =
    let both : (is_between LEAST_INT64 GREATEST_INT64 z ≡ true) × (cell.Int z ≡ y) = picked _ (cell.Int z) y (why.OutOfRange at) h in
    rw (← both.1, ← e) both.0

date_fits : (c : Column) (at : ℕ) (z : ℤ) (y : Cell) → kind.Date ≡ c.kind → date_cell at z ≡ Ok y → fits_column c y ≡ true
date_fits c at z y e h =
    let both : (is_between FIRST_DAY LAST_DAY z ≡ true) × (cell.Date z ≡ y) = picked _ (cell.Date z) y (why.OutOfRange at) h in
    rw (← both.1, ← e) both.0

timestamp_fits : (c : Column) (at : ℕ) (z : ℤ) (y : Cell) → kind.Timestamp ≡ c.kind → timestamp_cell at z ≡ Ok y → fits_column c y ≡ true
timestamp_fits c at z y e h =
    let both : (is_between FIRST_INSTANT LAST_INSTANT z ≡ true) × (cell.Timestamp z ≡ y) = picked _ (cell.Timestamp z) y (why.OutOfRange at) h in
    rw (← both.1, ← e) both.0

text_fits : (c : Column) (at : ℕ) (bytes : List ℕ) (y : Cell) → kind.Str ≡ c.kind → text_cell at bytes ≡ Ok y → fits_column c y ≡ true
text_fits c at bytes y e h =
    let both : (is_utf8 bytes ≡ true) × (cell.Str bytes ≡ y) = picked _ (cell.Str bytes) y (why.BadText at) h in
    rw (← both.1, ← e) both.0

-- a reading that can't fail
abbrev good : Cell → Result Cell RowWhy
good y = Ok y

bool_fits : (c : Column) (b : Bool) (y : Cell) → kind.Bool ≡ c.kind → good (cell.Bool b) ≡ Ok y → fits_column c y ≡ true
bool_fits c b y e h = let same : cell.Bool b ≡ y = cc in rw (← same, ← e) refl

bytes_fits : (c : Column) (bytes : List ℕ) (y : Cell) → kind.Bytes ≡ c.kind → good (cell.Bytes bytes) ≡ Ok y → fits_column c y ≡ true
bytes_fits c bytes y e h = let same : cell.Bytes bytes ≡ y = cc in rw (← same, ← e) refl

from_fits : (c : Column) (at : ℕ) (k : Kind) (m : Mode) (source : Source) (records : List Record) (y : Cell) → k ≡ c.kind → m ≡ c.mode → cell_from at k m source records ≡ Ok y → fits_column c y ≡ true
from_fits c at kind.Int64 m source records y e f h = fits_for c (λ n. int_cell at (number_of source.field_type n)) m at _ y f (λ n z. int_fits c at (number_of source.field_type n) z e) h
from_fits c at kind.Bool m source records y e f h = fits_for c (λ n. Ok (cell.Bool (not (n == 0)))) m at _ y f (λ n z. bool_fits c (not (n == 0)) z e) h
from_fits c at kind.Str m source records y e f h = fits_for c (text_cell at) m at _ y f (λ n z. text_fits c at n z e) h
from_fits c at kind.Bytes m source records y e f h = fits_for c (λ bytes. Ok (cell.Bytes bytes)) m at _ y f (λ n z. bytes_fits c n z e) h
from_fits c at kind.Date m source records y e f h = fits_for c (λ n. date_cell at (number_of source.field_type n)) m at _ y f (λ n z. date_fits c at (number_of source.field_type n) z e) h
from_fits c at kind.Timestamp m source records y e f h = fits_for c (λ n. timestamp_cell at (number_of source.field_type n)) m at _ y f (λ n z. timestamp_fits c at (number_of source.field_type n) z e) h

cell_fits : (c : Column) (at : ℕ) (b : BoundColumn) (records : List Record) (y : Cell) → b.kind ≡ c.kind → b.mode ≡ c.mode → cell_of at b records ≡ Ok y → fits_column c y ≡ true
unfolding cell_of
cell_fits c at b records y e f h = fits_for c (λ source. cell_from at b.kind b.mode source records) b.mode at b.source y f (λ source z. from_fits c at b.kind b.mode source records z e f) h

-- the first cell fits, and so do the others
abbrev pub FitsAll : List Column → List Cell → Type 0
FitsAll columns row = (length columns ≡ length row) × (list_all (λ pair. fits_column pair.0 pair.1) (zip columns row) ≡ true)

split : (r : Result Cell RowWhy) (rest : Result (List Cell) RowWhy) (columns : List Column) (c : Column) (cells : List Cell) → in_front r rest ≡ Ok cells →
    ((y : Cell) → r ≡ Ok y → fits_column c y ≡ true) → ((ys : List Cell) → rest ≡ Ok ys → FitsAll columns ys) → FitsAll (c ∷ columns) cells
split (Err e) rest columns c cells h first others = cc
split (Ok y) (Err e) columns c cells h first others = cc
split (Ok y) (Ok ys) columns c cells h first others =
    let same : y ∷ ys ≡ cells = cc in
    let tail : FitsAll columns ys = others ys refl in
    rw (← same) (ap suc tail.0, both (first y refl) tail.1)
  where
    both : {s t : Bool} → s ≡ true → t ≡ true → s && t ≡ true
    both e f = rw (e, f) refl

cells_fit : (at : ℕ) (binding : List BoundColumn) (columns : List Column) (records : List Record) (cells : List Cell) → IsBoundTo columns binding → cells_from at binding records ≡ Ok cells → FitsAll columns cells
cells_fit at [] [] records cells bound h = let none : [] ≡ cells = cc in rw (← none) (refl, refl)
cells_fit at [] (c ∷ columns) records cells bound h = cc
cells_fit at (b ∷ binding) [] records cells bound h = cc
cells_fit at (b ∷ binding) (c ∷ columns) records cells bound h =
    let first : kind_and_mode b ≡ column_kind_and_mode c = cc in
    let rest : IsBoundTo columns binding = cc in
    split (cell_of at b records) (cells_from (at + 1) binding records) columns c cells h
    (λ y. cell_fits c at b records y (ap (λ p. p.0) first) (ap (λ p. p.1) first))
    (λ ys. cells_fit (at + 1) binding columns records ys rest)

-- cells that were read fit the columns
pub cells_from-fit : (binding : List BoundColumn) (columns : List Column) (records : List Record) (cells : List Cell) → IsBoundTo columns binding → cells_from 0 binding records ≡ Ok cells → Fits columns cells
cells_from-fit binding columns records cells bound h =
    let all : FitsAll columns cells = cells_fit 0 binding columns records cells bound h in
    rw (all.0, nat_eq_equiv.refl (length cells)) all.1

row_by_fits : (binding : List BoundColumn) (columns : List Column) (r : Result (List Record) ℕ) (cells : List Cell) → IsBoundTo columns binding → row_by binding r ≡ Ok cells → Fits columns cells
row_by_fits binding columns (Ok records) cells bound h = cells_from-fit binding columns records cells bound h
row_by_fits binding columns (Err at) cells bound h = cc

-- a row that bytes are fits the columns
pub row_of-fits : (binding : List BoundColumn) (columns : List Column) (bytes : List ℕ) (cells : List Cell) → IsBoundTo columns binding → row_of binding bytes ≡ Ok cells → Fits columns cells
row_of-fits binding columns bytes cells bound h = row_by_fits binding columns (fields_of bytes) cells bound h

-- and so do all rows
pub AreRows-fit : (binding : List BoundColumn) (columns : List Column) (rows : List (List ℕ)) (decoded : List (List Cell)) → IsBoundTo columns binding → AreRows binding rows decoded → All (Fits columns) decoded
AreRows-fit binding columns [] [] bound h = All-nil (Fits columns)
AreRows-fit binding columns [] (cells ∷ decoded) bound h = cc
AreRows-fit binding columns (bytes ∷ rows) [] bound h = All-nil (Fits columns)
AreRows-fit binding columns (bytes ∷ rows) (cells ∷ decoded) bound h =
    let first : row_of binding bytes ≡ Ok cells = cc in
    let rest : AreRows binding rows decoded = cc in
    All-cons (Fits columns) cells decoded (row_of-fits binding columns bytes cells bound first) (AreRows-fit binding columns rows decoded bound rest)
